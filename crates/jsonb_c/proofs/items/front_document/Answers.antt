use Rattle.std.proofs.lemmas.Result.{err_from_is_err_and}
use Rattle.jsonb_c.proofs.ItemLemmas.{first_is}
use Rattle.jsonb_c.proofs.items.front_document.Goals as goal

pub returns-in_err-to_document-in-Some-clause-item : goal.returns-in_err-to_document-in-Some-clause-item
returns-in_err-to_document-in-Some-clause-item c = λ form top ts decodes h.
    let p = err_from_is_err_and c.from_residual.result c.from_residual.ensures.1 in
    let first = first_is form c.args.document.now c.args.items.now.items ts c.in-Some.item.now c.in-Some.ensures.item.3.0 c.in-Some.ensures.lookup h in
    rw (p.1, p.2, first.1) (c.in_err-to_document-in-Some.ensures.document form top first.0 (rw c.new.ensures decodes) (rw c.new.ensures first.2))

pub returns-in_ok-to_document-in-Some-clause-item : goal.returns-in_ok-to_document-in-Some-clause-item
returns-in_ok-to_document-in-Some-clause-item c = λ form top ts decodes h.
    let first = first_is form c.args.document.now c.args.items.now.items ts c.in-Some.item.now c.in-Some.ensures.item.3.0 c.in-Some.ensures.lookup h in
    rw first.1 (c.in_ok-to_document-in-Some.ensures.document form top first.0 (rw c.new.ensures decodes) (rw c.new.ensures first.2))
