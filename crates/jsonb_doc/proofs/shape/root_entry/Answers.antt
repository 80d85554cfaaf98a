use Rattle.jsonb_doc.proofs.Lemmas.{rules, ℕ, List, ◌≡◌, Ok, refl, arith, IsCut, IsRootShape, StoredEntry, Shape, Decodes-scalar, shape_root, array_root, object_root}
use Rattle.jsonb_doc.specs.declared.container.Container.{Container}
use Rattle.jsonb_doc.specs.declared.shape.Shape.TheVariants.{Array, Object}
use Rattle.jsonb_doc.specs.declared.container.Container.TheVariants as parts
use Rattle.jsonb_doc.proofs.shape.root_entry.Goals as goal

container_root : (bytes : List ℕ) (root : Container) → IsCut bytes root → ((e : StoredEntry) → root ≡ parts.Scalar e → ⊥)
    → (shape : Shape) × IsRootShape bytes shape
container_root bytes (parts.Scalar e) cut other = absurd (other e refl)
container_root bytes (parts.Array p) cut other = (Array, array_root bytes p cut)
container_root bytes (parts.Object p) cut other = (Object, object_root bytes p cut)

pub returns-in_err-scalar_shape-in-Scalar-clause-entry : goal.returns-in_err-scalar_shape-in-Scalar-clause-entry
returns-in_err-scalar_shape-in-Scalar-clause-entry c = λ form t h. search (rules, Decodes-scalar)

pub returns-in_ok-scalar_shape-in-Scalar-clause-entry : goal.returns-in_ok-scalar_shape-in-Scalar-clause-entry
returns-in_ok-scalar_shape-in-Scalar-clause-entry c = λ form t h. search (rules, Decodes-scalar)

pub returns-in_ok-scalar_shape-in-Scalar-clause-readable : goal.returns-in_ok-scalar_shape-in-Scalar-clause-readable
returns-in_ok-scalar_shape-in-Scalar-clause-readable c =
    let cut = rw c.in-Scalar.is at c.in_ok-entry.ensures.cut in
    (c.in_ok-scalar_shape-in-Scalar.field-0, shape_root c.args.bytes.now (λ i. omega (arith, c.type_inv.bytes i)) c.in-Scalar.entry cut (Ok c.in_ok-scalar_shape-in-Scalar.field-0) c.in_ok-scalar_shape-in-Scalar.ensures.reads)

pub returns-in_default : goal.returns-in_default
returns-in_default c = search (rules, container_root)
