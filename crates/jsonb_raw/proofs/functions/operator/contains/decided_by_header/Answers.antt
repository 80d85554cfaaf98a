use Rattle.jsonb_raw.proofs.Lemmas.{array, object, arrays_decided, objects_decided, contains-array, contains-object}
use Rattle.jsonb_raw.proofs.functions.operator.contains.decided_by_header.Goals as goal

pub returns-in-Array-Array : goal.returns-in-Array-Array
returns-in-Array-Array c = λ form other_form x y stands wanted.
    let (xs, is_array, d) = rw c.in-Array-Array.is-0 at stands in
    let (ys, same, e) = rw c.in-Array-Array.is-1 at wanted in
    rw (is_array, same, contains-array (array xs) ys) (arrays_decided form other_form _ _ xs ys _ d e c.decided_by_len.ensures)

pub returns-in-Object-Object : goal.returns-in-Object-Object
returns-in-Object-Object c = λ form other_form x y stands wanted.
    let (ps, is_object, d) = rw c.in-Object-Object.is-0 at stands in
    let (qs, same, e) = rw c.in-Object-Object.is-1 at wanted in
    rw (is_object, same, contains-object (object ps) qs)
    (objects_decided form other_form _ _ ps qs _ d e c.decided_by_len-in-Object-Object.ensures)
