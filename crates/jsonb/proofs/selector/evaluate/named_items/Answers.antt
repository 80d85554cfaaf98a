use Rattle.jsonb.proofs.Lemmas.{rules, filter, step_meaning, failed_as, same_outcome, none_passed, spot_passed, spot_not_passed, all_passed}
use Rattle.jsonb.proofs.selector.evaluate.named_items.Goals as goal

pub loop-item-init : goal.loop-item-init
loop-item-init c = search (rules, none_passed)

pub returns-in_err-push_tested-clause-meant : goal.returns-in_err-push_tested-clause-meant
returns-in_err-push_tested-clause-meant c = λ e top ts k n a.
    failed_as c.from_residual.ensures.1
    (spot_not_passed (step_meaning c.args.mode (filter e) top) c.args.bytes.now c.args.items.now ts c.loop-item.item-index c.loop-item.nodes.items
    c.push_tested.new.nodes.items (c.loop-item.invariant e top ts k n a) _ _ c.loop-item-test.true
    (λ u before s b. c.in_err-push_tested.ensures.meant e top u before k s (λ condition q. c.found_truth-truth.ensures.meant condition top u q s (same_outcome (n u) (c.field-found.ensures.meant u s))) b))

pub loop-item-preserved : goal.loop-item-preserved
loop-item-preserved c = λ e top ts k n a.
    spot_passed (step_meaning c.args.mode (filter e) top) c.args.bytes.now c.args.items.now ts
    c.loop-item.item-index c.loop-item.nodes.items c.push_tested.new.nodes.items (c.loop-item.invariant e top ts k n a) c.loop-item-test.true
    (λ u before s b. (c.in_ok-push_tested.ensures.meant e top u before k s (λ condition q. c.found_truth-truth.ensures.meant condition top u q s (same_outcome (n u) (c.field-found.ensures.meant u s))) b).ok)

pub returns-clause-meant : goal.returns-clause-meant
returns-clause-meant c = λ e top ts k n a. search (all_passed, c.loop-item.invariant e top ts k n a, c.loop-item-test.false)
