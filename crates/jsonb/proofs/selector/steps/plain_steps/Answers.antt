use Rattle.jsonb.proofs.Lemmas.{ap, try_flat_map, Locates, answered, failed_with, given_by, same_outcome, no_spot, one_more, refused_in, at_end, list_first, list_end}
use Rattle.jsonb.proofs.selector.steps.plain_steps.Goals as goal

pub returns-in-Some-clause-meant : goal.returns-in-Some-clause-meant
returns-in-Some-clause-meant c = λ top ts n a.
    same_outcome (ap (λ f. try_flat_map f ts) (c.in-Some.ensures c.args.context.now.mode top)) (c.named_values.ensures.meant ts a)

pub returns-in_err-given-clause-meant : goal.returns-in_err-given-clause-meant
returns-in_err-given-clause-meant c = λ top ts n a.
    failed_with c.from_residual-in_err-given.ensures.1
    (refused_in (c.loop-item.invariant top ts n a)
    (list_first (Locates c.args.context.now.document.bytes.now) c.args.items.now c.loop-item.item-index no_spot c.loop-item-test.true)
    (λ u before s b. (c.in_err-given.ensures.meant top u n s).err))

pub returns-in_err-push-clause-meant : goal.returns-in_err-push-clause-meant
returns-in_err-push-clause-meant c = λ top ts n a.
    failed_with c.from_residual-in_err-push.ensures.1
    (refused_in (c.loop-item.invariant top ts n a)
    (list_first (Locates c.args.context.now.document.bytes.now) c.args.items.now c.loop-item.item-index no_spot c.loop-item-test.true)
    (λ u before s b. (given_by (c.in_ok-given.ensures.meant top u n s) (λ us given. c.in_err-push.ensures.meant us before given b)).err))

pub loop-item-preserved : goal.loop-item-preserved
loop-item-preserved c = λ top ts n a.
    one_more (c.loop-item.invariant top ts n a)
    (list_first (Locates c.args.context.now.document.bytes.now) c.args.items.now c.loop-item.item-index no_spot c.loop-item-test.true)
    (λ u before s b. (given_by (c.in_ok-given.ensures.meant top u n s) (λ us given. c.in_ok-push.ensures.meant us before given b)).ok)

pub returns-clause-meant : goal.returns-clause-meant
returns-clause-meant c = λ top ts n a. search (answered, at_end, list_end, c.loop-item.invariant top ts n a, c.loop-item-test.false)
