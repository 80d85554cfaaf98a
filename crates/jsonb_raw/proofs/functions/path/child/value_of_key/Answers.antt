use Rattle.jsonb_raw.proofs.Lemmas.{refl, err_from_is_err_and, number_reader}
use Rattle.jsonb_raw.proofs.functions.path.child.value_of_key.Goals as goal

pub returns-in_err-value-clause-found : goal.returns-in_err-value-clause-found
returns-in_err-value-clause-found c = λ form ps held. absurd (c.in_err-value.ensures.value (number_reader form) ps held)

pub returns-in_err-found_document-in-Some-clause-found : goal.returns-in_err-found_document-in-Some-clause-found
returns-in_err-found_document-in-Some-clause-found c = λ form ps held.
    let p = err_from_is_err_and c.from_residual-in_err-found_document-in-Some.result c.from_residual-in_err-found_document-in-Some.ensures.1 in
    let v = rw (c.as_bytes.ensures.value, c.in-Some.is) at (c.in_ok-value.ensures.value (number_reader form) ps held) in
    rw (p.1, p.2, v.under) (c.in_err-found_document-in-Some.ensures.document form v.value v.part)

pub returns-in_ok-found_document-in-Some-clause-found : goal.returns-in_ok-found_document-in-Some-clause-found
returns-in_ok-found_document-in-Some-clause-found c = λ form ps held.
    let v = rw (c.as_bytes.ensures.value, c.in-Some.is) at (c.in_ok-value.ensures.value (number_reader form) ps held) in
    rw v.under (c.in_ok-found_document-in-Some.ensures.document form v.value v.part)

pub returns-in-None-clause-found : goal.returns-in-None-clause-found
returns-in-None-clause-found c = λ form ps held.
    rw (rw (c.as_bytes.ensures.value, c.in-None.is) at (c.in_ok-value.ensures.value (number_reader form) ps held)) refl
