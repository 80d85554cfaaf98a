use Rattle.jsonb_doc.proofs.Lemmas.{arith, rules, Decodes-scalar, Decodes-array, Decodes-object, Holds-elements, Holds-pairs, shape_root}
use Rattle.jsonb_doc.proofs.shape.root_shape.Goals as goal

pub returns-in-Scalar-clause-shape : goal.returns-in-Scalar-clause-shape
returns-in-Scalar-clause-shape c = λ form t h. search (rules, Decodes-scalar)

pub returns-in-Array-clause-shape : goal.returns-in-Array-clause-shape
returns-in-Array-clause-shape c = λ form t h.
    let found = Holds-elements form _ t _ (Decodes-array form _ c.in-Array.field-0 (rw c.in-Array.is at c.in_ok-entry.ensures.cut) t h) h in
    (found.0, found.1)

pub returns-in-Object-clause-shape : goal.returns-in-Object-clause-shape
returns-in-Object-clause-shape c = λ form t h.
    let found = Holds-pairs form _ t _ (Decodes-object form _ c.in-Object.field-0 (rw c.in-Object.is at c.in_ok-entry.ensures.cut) t h) h in
    (found.0, found.1)

pub returns-in-Scalar-clause-readable : goal.returns-in-Scalar-clause-readable
returns-in-Scalar-clause-readable c =
    shape_root c.args.bytes.now (λ i. omega (arith, c.type_inv.bytes i)) c.in-Scalar.entry (rw c.in-Scalar.is at c.in_ok-entry.ensures.cut) c.scalar_shape.result c.scalar_shape.ensures.reads
