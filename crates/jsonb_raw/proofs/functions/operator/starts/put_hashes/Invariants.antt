use Rattle.jsonb_raw.proofs.Common.{◌≡◌, length, Entries, AreHints}
use Rattle.jsonb_raw.proofs.functions.operator.starts.put_hashes.Given as goal

abbrev pub invariant-loop-entry : goal.invariant-loop-entry
invariant-loop-entry l = record { hints : (all : Entries) → AreHints all l.fn.slots → AreHints all l.slots; length : length l.slots ≡ length l.fn.slots }
