use Rattle.jsonb_doc.proofs.Lemmas.{arith, inl, inr, ap, any, number_reader, header_number, HasContent-headed, HasContent-kind, array_content, object_content}
use Rattle.jsonb_doc.proofs.spot.content.container_value.Goals as goal

pub returns-in_default-clause-value : goal.returns-in_default-clause-value
returns-in_default-clause-value c = λ t h.
    let (kind, n, rest, headed) = HasContent-headed (number_reader any) c.args.content.now (t, h) in
    c.in_default.ensures kind n rest headed

pub returns-in-Array-clause-value : goal.returns-in-Array-clause-value
returns-in-Array-clause-value c = λ t h.
    let found = array_content any _ _ _ _ c.in-Some.ensures t (ap header_number c.in-Array.is) h in (found.0, found.1)

pub returns-in-Object-clause-value : goal.returns-in-Object-clause-value
returns-in-Object-clause-value c = λ t h.
    let found = object_content any _ _ _ _ c.in-Some.ensures t (ap header_number c.in-Object.is) h in (found.0, found.1)

pub returns-in-Scalar-clause-value : goal.returns-in-Scalar-clause-value
returns-in-Scalar-clause-value c = λ t h.
    let is = ap header_number c.in-Scalar.is in
    elim (HasContent-kind (number_reader any) _ _ _ _ c.in-Some.ensures (t, h)) [ inl e ↦ omega arith | inr e ↦ omega arith ]
