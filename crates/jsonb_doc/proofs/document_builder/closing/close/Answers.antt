use Rattle.jsonb_doc.proofs.Lemmas.{arith, ◌≡◌, ◌∙◌, sym, true, is_none, is_none_from, object_fails, AllZip-long, count-trees_of}
use Rattle.jsonb_doc.proofs.document_builder.closing.close.Goals as goal

pub returns-in_err-close_array-in-Array : goal.returns-in_err-close_array-in-Array
returns-in_err-close_array-in-Array c = λ form ps level h.
    let why = c.in_err-close_array-in-Array.ensures in
    (grind (arith, count-trees_of, AllZip-long, rw c.in-Array.is at h, c.from_residual.ensures.1, rw c.deref.ensures.value at why))

pub returns-in_err-close_object-in-Object : goal.returns-in_err-close_object-in-Object
returns-in_err-close_object-in-Object c = λ form ps level h.
    let none : true ≡ is_none c.in-Object.key = sym c.if-is_none.true ∙ is_none_from _ _ c.is_none.ensures in
    object_fails form ps c.in-Object.members _ level _ _ (rw c.in-Object.is at h) none c.from_residual-in_err-close_object-in-Object.ensures.1
    c.in_err-close_object-in-Object.ensures
