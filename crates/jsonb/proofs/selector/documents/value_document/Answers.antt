use Rattle.jsonb.proofs.Lemmas.{rules, ◌<◌, length, arith, err_is, Selects-length, value_few, value_many}
use Rattle.jsonb.proofs.selector.documents.value_document.Goals as goal

pub returns-in_err-array_document-clause-document : goal.returns-in_err-array_document-clause-document
returns-in_err-array_document-clause-document c = λ form top ts decodes h.
    let several : 1 < length ts = omega (arith, c.selected_len.ensures, Selects-length form c.args.document c.args.selected.now ts h) in
    rw (err_is c.from_residual.ensures.1, value_many ts several) (c.in_err-array_document.ensures.document form top ts decodes h)

pub returns-then-selected_len-gt1-clause-document : goal.returns-then-selected_len-gt1-clause-document
returns-then-selected_len-gt1-clause-document c = λ form top ts decodes h.
    let several : 1 < length ts = omega (arith, c.selected_len.ensures, Selects-length form c.args.document c.args.selected.now ts h) in
    rw (value_many ts several) (c.in_ok-array_document.ensures.document form top ts decodes h)

pub returns-clause-document : goal.returns-clause-document
returns-clause-document c = search (rules, Selects-length, value_few)
