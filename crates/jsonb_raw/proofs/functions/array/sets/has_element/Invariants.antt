use Rattle.jsonb_raw.proofs.Lemmas.{◌≡◌, list_any, Tree, Trees, elements, is_equal, Form, StandsFor, HasElementsLeft, SomeElements}
use Rattle.jsonb_raw.proofs.functions.array.sets.has_element.Given as goal

-- what is left decides what all decides
abbrev pub invariant-loop-element : goal.invariant-loop-element
invariant-loop-element l = (form other_form : Form) (ts : Trees) (t : Tree) → HasElementsLeft form l.fn.found ts → StandsFor other_form l.item t
    → SomeElements form l.element-iterator (λ left. list_any (is_equal t) (elements left) ≡ list_any (is_equal t) (elements ts))
