use Rattle.jsonb_raw.proofs.Lemmas.{◌≡◌, true, false, take, list_any, Tree, Trees, elements, is_equal, Form, HasEntriesLeft, overlap, IsIn, SomeEntries}
use Rattle.jsonb_raw.proofs.functions.array.overlap.block_overlaps.Given as goal

-- what is left decides what all decides
abbrev pub invariant-loop-entry : goal.invariant-loop-entry
invariant-loop-entry l = (form other_form : Form) (ts us : Trees) → HasEntriesLeft form l.fn.found ts → HasEntriesLeft other_form l.others us
    → ((t : Tree) → list_any (is_equal t) (take l.block.count (elements us)) ≡ true → l.block.is_open ≡ false → IsIn l.words t)
    → SomeEntries form l.entry-iterator (λ left. overlap (elements left) (take l.block.count (elements us)) ≡ overlap (elements ts) (take l.block.count (elements us)))
