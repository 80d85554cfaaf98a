use Rattle.jsonb_doc.proofs.Lemmas.{err_is, arith, refused_stays, stays_refused, due_along}
use Rattle.jsonb_doc.proofs.event_list.collecting.finish_members.Goals as goal

pub returns-in_err-push_members : goal.returns-in_err-push_members
returns-in_err-push_members c = λ level h none.
    err_is _ _ _ _ c.from_residual.ensures.1
    (grind (arith, due_along, refused_stays, stays_refused, c.in_err-push_members.ensures))
