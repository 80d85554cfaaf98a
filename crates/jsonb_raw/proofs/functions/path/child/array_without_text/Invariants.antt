use Rattle.jsonb_raw.proofs.Lemmas.{filter, not, Trees, array, elements, Form, Decodes, is_text, HeldElements}
use Rattle.jsonb_raw.proofs.functions.path.child.array_without_text.Given as goal

abbrev pub invariant-loop-element : goal.invariant-loop-element
invariant-loop-element l = (form : Form) (ts : Trees) → Decodes form l.bytes (array ts)
    → HeldElements form l.builder l.element-iterator (λ left. filter (λ t. not (is_text l.name t)) (elements left))
    (filter (λ t. not (is_text l.name t)) (elements ts))
