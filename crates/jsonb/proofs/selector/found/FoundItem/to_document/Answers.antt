use Rattle.jsonb.proofs.Lemmas.{sym, Locates, raw_bytes, err_is}
use Rattle.jsonb.proofs.selector.found.FoundItem.to_document.Goals as goal

pub returns-in_err-item-in-At-clause-document : goal.returns-in_err-item-in-At-clause-document
returns-in_err-item-in-At-clause-document c = λ form top t decodes is.
    let at : Locates (raw_bytes c.args.document.now) c.in-At.spot t = rw c.in-At.is at is in
    rw (err_is c.from_residual.ensures.1) (c.in_err-item-in-At.ensures.decodes form top t (rw (sym c.as_bytes.ensures) at decodes)
    (rw (sym c.as_bytes.ensures) at at))
