use Rattle.jsonb_raw.proofs.Lemmas.{◌<◌, length}
use Rattle.jsonb_raw.proofs.functions.operator.starts.marked_slot.Given as goal

abbrev pub invariant-loop : goal.invariant-loop
invariant-loop l = l.slot < length l.slots
