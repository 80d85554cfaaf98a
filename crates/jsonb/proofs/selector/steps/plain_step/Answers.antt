use Rattle.jsonb.proofs.Lemmas.{[], Ok, sym, subst, Locates, AllZip, failed_as, refused_as, given_by, answered}
use Rattle.jsonb.proofs.selector.steps.plain_step.Goals as goal

pub returns-in_err-given-clause-meant : goal.returns-in_err-given-clause-meant
returns-in_err-given-clause-meant c = λ top u n s. failed_as c.from_residual.ensures.1 (refused_as (c.in_err-given.ensures.meant top u n s))

pub returns-in-AtMostOne-clause-meant : goal.returns-in-AtMostOne-clause-meant
returns-in-AtMostOne-clause-meant c = λ top u n s.
    given_by (c.in_ok-given.ensures.meant top u n s)
    (λ us a. answered {o = Ok us} (rw (sym c.at_most_one.ensures) at (rw c.in-AtMostOne.is at a)))

pub returns-in_err-push-clause-meant : goal.returns-in_err-push-clause-meant
returns-in_err-push-clause-meant c = λ top u n s.
    given_by (c.in_ok-given.ensures.meant top u n s)
    (λ us a. failed_as c.from_residual-in_err-push.ensures.1 (refused_as (c.in_err-push.ensures.meant us [] a
    (subst (λ l. AllZip (Locates c.args.context.now.document.bytes.now) l []) (sym c.in_ok-nodes.ensures.items) tt))))

pub returns-clause-meant : goal.returns-clause-meant
returns-clause-meant c = λ top u n s.
    given_by (c.in_ok-given.ensures.meant top u n s)
    (λ us a. answered {o = Ok us} (c.in_ok-push.ensures.meant us [] a
    (subst (λ l. AllZip (Locates c.args.context.now.document.bytes.now) l []) (sym c.in_ok-nodes.ensures.items) tt)).ok)
