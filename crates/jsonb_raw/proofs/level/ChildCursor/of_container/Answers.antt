use Rattle.jsonb_raw.proofs.Lemmas.{arith, inl, inr, ap, number_reader, header_number, HasContent-kind, headed}
use Rattle.jsonb_raw.proofs.level.ChildCursor.of_container.Goals as goal

pub returns-in_default-clause-level : goal.returns-in_default-clause-level
returns-in_default-clause-level c = λ form t content. headed form t c.args.bytes.now content c.in_default.ensures

pub returns-in-Scalar-clause-level : goal.returns-in-Scalar-clause-level
returns-in-Scalar-clause-level c = λ form t content.
    let is = ap header_number c.in-Scalar.is in
    elim (HasContent-kind (number_reader form) _ _ _ _ c.in-Some.ensures (t, content)) [ inl e ↦ omega arith | inr e ↦ omega arith ]
