use Rattle.jsonb_doc.proofs.Lemmas.{refl, any, number_reader, Container, Locates-scalar, no_field, Locates-document, Locates-no-scalar, array_no_field, field_absent, field_searched, field_marks, differing_kind, equal_kind}
use Rattle.jsonb_doc.proofs.spot.field_spot.Goals as goal

pub returns-then-ne-clause-field : goal.returns-then-ne-clause-field
returns-then-ne-clause-field c = λ t m.
    no_field c.args.bytes.now _ t ((Locates-scalar _ _ t m (differing_kind _ _ Container c.ne.ensures c.if-ne.true)).1 c.args.name.now)

pub returns-in_err-read_container-clause-field : goal.returns-in_err-read_container-clause-field
returns-in_err-read_container-clause-field c = λ t m.
    absurd (c.in_err-read_container.ensures.cut.1 (number_reader any) t
    (Locates-document c.args.bytes.now c.args.spot t m _ c.in_ok-object.ensures.2 (equal_kind _ c.args.spot.kind Container c.ne.ensures c.if-ne.false)))

pub returns-in-Scalar-clause-field : goal.returns-in-Scalar-clause-field
returns-in-Scalar-clause-field c = λ t m.
    Locates-no-scalar _ _ t m _ c.in_ok-object.ensures.2 (equal_kind _ _ Container c.ne.ensures c.if-ne.false) c.in-Scalar.field-0
    (rw c.in-Scalar.is at c.in_ok-read_container.ensures.cut)

pub returns-in-Array-clause-field : goal.returns-in-Array-clause-field
returns-in-Array-clause-field c = λ t m.
    array_no_field _ _ t m _ c.in_ok-object.ensures.2 (equal_kind _ _ Container c.ne.ensures c.if-ne.false) c.in-Array.field-0
    (rw c.in-Array.is at c.in_ok-read_container.ensures.cut) _

pub returns-in_err-value-clause-field : goal.returns-in_err-value-clause-field
returns-in_err-value-clause-field c = λ t m.
    absurd (field_searched _ _ t m _ c.in_ok-object.ensures.2 (equal_kind _ _ Container c.ne.ensures c.if-ne.false) _
    (rw c.in-Object.is at c.in_ok-read_container.ensures.cut) c.args.name.now c.in_err-value.ensures.value)

pub returns-in_default-clause-field : goal.returns-in_default-clause-field
returns-in_default-clause-field c = λ t m.
    field_absent _ _ t m _ c.in_ok-object.ensures.2 (equal_kind _ _ Container c.ne.ensures c.if-ne.false) _
    (rw c.in-Object.is at c.in_ok-read_container.ensures.cut) _
    (λ number_at ps held. rw (c.as_bytes.ensures.value, c.in_default.is) at (c.in_ok-value.ensures.value number_at ps held))

pub returns-clause-field : goal.returns-clause-field
returns-clause-field c = λ t m.
    field_marks _ _ t m _ c.in_ok-object.ensures.2 (equal_kind _ _ Container c.ne.ensures c.if-ne.false) _
    (rw c.in-Object.is at c.in_ok-read_container.ensures.cut) _ _ _ refl refl refl
    (λ number_at ps held. rw (c.as_bytes.ensures.value, c.in-Some.is) at (c.in_ok-value.ensures.value number_at ps held))
