use Rattle.jsonb_raw.proofs.Lemmas.{◌≡◌, Trees, elements, Form, HasEntriesLeft, overlap, SomeEntries}
use Rattle.jsonb_raw.proofs.functions.array.overlap.pairs_overlap.Given as goal

-- what is left decides what all decides
abbrev pub invariant-loop-entry : goal.invariant-loop-entry
invariant-loop-entry l = (form other_form : Form) (ts us : Trees) → HasEntriesLeft form l.fn.found ts → HasEntriesLeft other_form l.others us
    → SomeEntries form l.entry-iterator (λ left. overlap (elements left) (elements us) ≡ overlap (elements ts) (elements us))
