use Rattle.jsonb.proofs.Lemmas.{Locates, err_is, found_made, none_made}
use Rattle.jsonb.proofs.selector.documents.found_document.Goals as goal

pub returns-in_err-spot_document-in-Some-clause-document : goal.returns-in_err-spot_document-in-Some-clause-document
returns-in_err-spot_document-in-Some-clause-document c = λ form top t decodes same.
    found_made form (Locates c.args.bytes.now) c.in-Some.spot t _ (rw c.in-Some.is at same) (λ u at.
    rw (err_is c.from_residual.ensures.1) (c.in_err-spot_document-in-Some.ensures.decodes form top u decodes at))

pub returns-in_ok-spot_document-in-Some-clause-document : goal.returns-in_ok-spot_document-in-Some-clause-document
returns-in_ok-spot_document-in-Some-clause-document c = λ form top t decodes same.
    found_made form (Locates c.args.bytes.now) c.in-Some.spot t _ (rw c.in-Some.is at same) (λ u at.
    rw c.new.ensures (c.in_ok-spot_document-in-Some.ensures.decodes form top u decodes at))

pub returns-in-None-clause-document : goal.returns-in-None-clause-document
returns-in-None-clause-document c = λ form top t decodes same. none_made form (Locates c.args.bytes.now) t (rw c.in-None.is at same)
