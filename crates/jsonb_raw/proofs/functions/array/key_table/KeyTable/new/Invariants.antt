use Rattle.jsonb_raw.proofs.Lemmas.{length, ◌<◌, ◌^◌, AllByRecursion, Trees, elements, Fits, Form, HasEntriesLeft, SomeEntries, KeysLeft}
use Rattle.jsonb_raw.proofs.functions.array.key_table.KeyTable.new.Given as goal

-- the keys of those before what is left are counted
abbrev pub invariant-loop-entry : goal.invariant-loop-entry
invariant-loop-entry l = (form : Form) (ts : Trees) → HasEntriesLeft form l.fn.entries ts → AllByRecursion Fits (elements ts) → length (elements ts) < 2 ^ 63
    → SomeEntries form l.entry-iterator (λ left. KeysLeft l.keys (elements left) (elements ts))
