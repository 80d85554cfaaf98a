use Rattle.jsonb_raw.proofs.Lemmas.{◌≡◌, ◌<◌, length, list_any, Tree, Trees, array, elements, Form, Decodes, StandsFor, is_part_of, SomeElements}
use Rattle.jsonb_raw.proofs.functions.operator.contains.element_matches.Given as goal

-- no element so far matches, so those that are left decide
abbrev pub invariant-loop-item : goal.invariant-loop-item
invariant-loop-item l = record {
  room : length l.item-iterator.entries.contents.now < length l.fn.bytes;
  left : (form other_form : Form) (xs : Trees) (y : Tree) → Decodes form l.fn.bytes (array xs) → StandsFor other_form l.fn.wanted y
      → SomeElements form l.item-iterator (λ left. list_any (is_part_of y) (elements left) ≡ list_any (is_part_of y) (elements xs));
}
