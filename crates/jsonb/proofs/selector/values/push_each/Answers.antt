use Rattle.jsonb.proofs.Lemmas.{◌++◌, ap, ◌∙◌, value_of_item, answered, failed_with, memory_only, total_start, one_more, refused_in, at_end, spot_first, spot_end, spot_refused}
use Rattle.jsonb.proofs.selector.values.push_each.Goals as goal

pub loop-element-init : goal.loop-element-init
loop-element-init c = λ ts h. search (total_start, c.into_iter-element-iterator.ensures.into_iter_gives)

pub returns-in_err-element-clause-meant : goal.returns-in_err-element-clause-meant
returns-in_err-element-clause-meant c = λ ts h.
    spot_refused c.args.bytes.now c.in_err-element.was c.in-Some.ensures.steps (c.loop-element.invariant ts h)

pub returns-in_err-spot_value-clause-meant : goal.returns-in_err-spot_value-clause-meant
returns-in_err-spot_value-clause-meant c = λ ts h.
    failed_with c.from_residual-in_err-spot_value.ensures.1
    (memory_only (refused_in (c.loop-element.invariant ts h) (spot_first c.args.bytes.now c.in_ok-element.was c.in-Some.ensures.steps)
    (λ t so_far m d. absurd (c.in_err-spot_value.ensures.value t m))))

pub returns-in_err-push_item-clause-meant : goal.returns-in_err-push_item-clause-meant
returns-in_err-push_item-clause-meant c = λ ts h.
    failed_with c.from_residual-in_err-push_item.ensures.1
    (memory_only (refused_in (c.loop-element.invariant ts h) (spot_first c.args.bytes.now c.in_ok-element.was c.in-Some.ensures.steps)
    (λ t so_far m d. memory_only (c.in_err-push_item.ensures.meant t (c.in_ok-spot_value.ensures.value t m)).err)))

pub loop-element-preserved : goal.loop-element-preserved
loop-element-preserved c = λ ts h.
    one_more (c.loop-element.invariant ts h) (spot_first c.args.bytes.now c.in_ok-element.was c.in-Some.ensures.steps)
    (λ t so_far m d. (c.in_ok-push_item.ensures.meant t (c.in_ok-spot_value.ensures.value t m)).ok ∙ ap (λ l. l ++ value_of_item t) d)

pub returns-clause-meant : goal.returns-clause-meant
returns-clause-meant c = λ ts h. answered (at_end (c.loop-element.invariant ts h) (spot_end c.args.bytes.now c.in-None.ensures.steps))
