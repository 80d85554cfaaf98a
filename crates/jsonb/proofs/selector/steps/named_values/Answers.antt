use Rattle.jsonb.proofs.Lemmas.{Locates, answered, failed_with, given_by, no_spot, one_more, refused_in, at_end, list_first, list_end}
use Rattle.jsonb.proofs.selector.steps.named_values.Goals as goal

pub returns-in_err-found-clause-meant : goal.returns-in_err-found-clause-meant
returns-in_err-found-clause-meant c = λ ts a.
    failed_with c.from_residual-in_err-found.ensures.1
    (refused_in (c.loop-item.invariant ts a)
    (list_first (Locates c.args.context.now.document.bytes.now) c.args.items.now c.loop-item.item-index no_spot c.loop-item-test.true)
    (λ u before s b. (c.in_err-found.ensures.meant u s).err))

pub returns-in_err-push-clause-meant : goal.returns-in_err-push-clause-meant
returns-in_err-push-clause-meant c = λ ts a.
    failed_with c.from_residual-in_err-push.ensures.1
    (refused_in (c.loop-item.invariant ts a)
    (list_first (Locates c.args.context.now.document.bytes.now) c.args.items.now c.loop-item.item-index no_spot c.loop-item-test.true)
    (λ u before s b. (given_by (c.in_ok-found.ensures.meant u s) (λ us found. c.in_err-push.ensures.meant us before found b)).err))

pub loop-item-preserved : goal.loop-item-preserved
loop-item-preserved c = λ ts a.
    one_more (c.loop-item.invariant ts a)
    (list_first (Locates c.args.context.now.document.bytes.now) c.args.items.now c.loop-item.item-index no_spot c.loop-item-test.true)
    (λ u before s b. (given_by (c.in_ok-found.ensures.meant u s) (λ us found. c.in_ok-push.ensures.meant us before found b)).ok)

pub returns-clause-meant : goal.returns-clause-meant
returns-clause-meant c = λ ts a. search (answered, at_end, list_end, c.loop-item.invariant ts a, c.loop-item-test.false)
