use Rattle.jsonb_raw.proofs.Lemmas.{◌≡◌, None, refl, without_name, arith}
use Rattle.jsonb_raw.proofs.raw.RawJsonb.delete_by_name.Goals as goal

pub returns-in-Array-clause-deleted : goal.returns-in-Array-clause-deleted
returns-in-Array-clause-deleted c = λ form t d.
    let s = rw c.in-Array.is at (c.in_ok-bytes.ensures.decodes form t (rw c.as_bytes.ensures d)) in
    rw s.1 (c.array_without_text.ensures.deleted form s.0 s.2)

pub returns-in-Object-clause-deleted : goal.returns-in-Object-clause-deleted
returns-in-Object-clause-deleted c = λ form t d.
    let s = rw c.in-Object.is at (c.in_ok-bytes.ensures.decodes form t (rw c.as_bytes.ensures d)) in
    rw s.1 (c.object_without_key.ensures.deleted form s.0 s.2)

pub returns-in_default-clause-deleted : goal.returns-in_default-clause-deleted
returns-in_default-clause-deleted c = λ form t d.
    let none : without_name c.args.name.now t
    ≡ None = grind (arith, c.in_ok-bytes.ensures.decodes form t (rw c.as_bytes.ensures d), c.in_default.not-Array, c.in_default.not-Object) in
    rw none refl
