use Rattle.jsonb_raw.proofs.Lemmas.{length, ◌<◌, ◌^◌, Trees, elements, Form, HasEntriesLeft, SomeEntries, CountsLeft}
use Rattle.jsonb_raw.proofs.functions.array.overlap_in.count_entries.Given as goal

-- what is counted and what is left are the whole
abbrev pub invariant-loop-entry : goal.invariant-loop-entry
invariant-loop-entry l = (form : Form) (ts : Trees) → HasEntriesLeft form l.fn.entries ts → length (elements ts) < 2 ^ 63
    → SomeEntries form l.entry-iterator (λ left. CountsLeft l.counts (elements left) (elements ts))
