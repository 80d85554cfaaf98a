use Rattle.jsonb_doc.proofs.Lemmas.{any, number_reader, Container, Locates-scalar, Locates-document, Locates-no-scalar, array_elements, object_no_elements, differing_kind, equal_kind, arith, arith}
use Rattle.jsonb_doc.proofs.spot.content.element_spots.Goals as goal

pub returns-then-ne-clause-spots : goal.returns-then-ne-clause-spots
returns-then-ne-clause-spots c = λ t m. (grind (arith, (Locates-scalar _ _ t m (differing_kind _ _ Container c.ne.ensures c.if-ne.true)).0))

pub returns-in_err-read_container-clause-spots : goal.returns-in_err-read_container-clause-spots
returns-in_err-read_container-clause-spots c = λ t m.
    absurd (c.in_err-read_container.ensures.cut.1 (number_reader any) t
    (Locates-document c.args.bytes.now c.args.spot t m _ c.in_ok-content.ensures.2 (equal_kind _ c.args.spot.kind Container c.ne.ensures c.if-ne.false)))

pub returns-in-Scalar-clause-spots : goal.returns-in-Scalar-clause-spots
returns-in-Scalar-clause-spots c = λ t m.
    Locates-no-scalar _ _ t m _ c.in_ok-content.ensures.2 (equal_kind _ _ Container c.ne.ensures c.if-ne.false) c.in-Scalar.field-0
    (rw c.in-Scalar.is at c.in_ok-read_container.ensures.cut)

pub returns-in-Array-clause-spots : goal.returns-in-Array-clause-spots
returns-in-Array-clause-spots c = λ t m.
    array_elements _ _ t m _ c.in_ok-content.ensures.2 (equal_kind _ _ Container c.ne.ensures c.if-ne.false) c.in-Array.parts
    (rw c.in-Array.is at c.in_ok-read_container.ensures.cut) _ c.new.ensures.words c.new.ensures.start c.new.ensures.end

pub returns-in-Object-clause-spots : goal.returns-in-Object-clause-spots
returns-in-Object-clause-spots c = λ t m.
    object_no_elements _ _ t m _ c.in_ok-content.ensures.2 (equal_kind _ _ Container c.ne.ensures c.if-ne.false) c.in-Object.field-0
    (rw c.in-Object.is at c.in_ok-read_container.ensures.cut)
