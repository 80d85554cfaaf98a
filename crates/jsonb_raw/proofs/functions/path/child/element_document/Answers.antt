use Rattle.jsonb_raw.proofs.Lemmas.{drop, err_from_is_err_and, split_at, entry_taken}
use Rattle.jsonb_raw.proofs.functions.path.child.element_document.Goals as goal

pub returns-in_err-found_document-clause-found : goal.returns-in_err-found_document-clause-found
returns-in_err-found_document-clause-found c = λ form ts h.
    let parts = c.in_ok-back.ensures.split form ts h in
    let f = entry_taken form _ (drop c.args.index ts) _ _ _ c.in-Some.is (c.in_ok-entry.ensures.first form _ parts.1) in
    let p = err_from_is_err_and c.from_residual-in_err-found_document.result c.from_residual-in_err-found_document.ensures.1 in
    rw (p.1, p.2, (split_at ts c.args.index f.t f.rest f.split).at) (c.in_err-found_document.ensures.document form f.t f.is_first.part)
