use Rattle.jsonb.proofs.Lemmas.{[], ◌∷◌, trees_of, err_is, part_refused}
use Rattle.jsonb.proofs.selector.documents.part_array.Goals as goal

pub returns-in-Item-clause-document : goal.returns-in-Item-clause-document
returns-in-Item-clause-document c = λ form t is. c.array_of_one.ensures.document form t (rw c.in-Item.is at is)

pub returns-in_err-array-in-ArrayOf-clause-document : goal.returns-in_err-array-in-ArrayOf-clause-document
returns-in_err-array-in-ArrayOf-clause-document c = λ form t is.
    let part = rw c.in-ArrayOf.is at is in
    rw (err_is c.from_residual.ensures.1) (part_refused form [] t _ _ part.1 (c.in_err-array-in-ArrayOf.ensures.document form part.0 part.2))

pub returns-in_ok-array-in-ArrayOf-clause-document : goal.returns-in_ok-array-in-ArrayOf-clause-document
returns-in_ok-array-in-ArrayOf-clause-document c = λ form t is.
    let part = rw c.in-ArrayOf.is at is in
    let made = c.in_ok-array-in-ArrayOf.ensures.document form part.0 part.2 in
    c.array_of_one-in-ArrayOf-2.ensures.document form t (trees_of (part.0 ∷ []), part.1, rw c.as_slice.ensures.value made)
