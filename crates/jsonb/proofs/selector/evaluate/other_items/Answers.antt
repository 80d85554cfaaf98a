use Rattle.jsonb.proofs.Lemmas.{rules, Ok, ap, sym, ◌∙◌, filter, step_meaning, failed_as, refused_as, given_by, same_outcome, none_passed, spot_passed, spot_not_passed, all_passed}
use Rattle.jsonb.proofs.selector.evaluate.other_items.Goals as goal

pub loop-item-init : goal.loop-item-init
loop-item-init c = search (rules, none_passed)

pub returns-in_err-tested_truth-clause-meant : goal.returns-in_err-tested_truth-clause-meant
returns-in_err-tested_truth-clause-meant c = λ e top ts k a.
    failed_as c.from_residual.ensures.1
    (spot_not_passed (step_meaning c.args.mode (filter e) top) c.args.bytes.now c.args.items.now ts c.loop-item.item-index c.loop-item.nodes.items
    c.loop-item.nodes.items (c.loop-item.invariant e top ts k a) _ _ c.loop-item-test.true
    (λ u before s b. refused_as (c.in_err-tested_truth.ensures.meant e top u k s)))

pub returns-in_err-push_if-clause-meant : goal.returns-in_err-push_if-clause-meant
returns-in_err-push_if-clause-meant c = λ e top ts k a.
    failed_as c.from_residual-in_err-push_if.ensures.1
    (spot_not_passed (step_meaning c.args.mode (filter e) top) c.args.bytes.now c.args.items.now ts c.loop-item.item-index c.loop-item.nodes.items
    c.push_if.new.nodes.items (c.loop-item.invariant e top ts k a) _ _ c.loop-item-test.true
    (λ u before s b. given_by (c.in_ok-tested_truth.ensures.meant e top u k s)
    (λ us is. same_outcome (ap Ok (sym is ∙ c.is_true-keeps.ensures u)) (c.in_err-push_if.ensures.meant c.args.bytes.now u before s b))))

pub loop-item-preserved : goal.loop-item-preserved
loop-item-preserved c = λ e top ts k a.
    spot_passed (step_meaning c.args.mode (filter e) top) c.args.bytes.now c.args.items.now ts
    c.loop-item.item-index c.loop-item.nodes.items c.push_if.new.nodes.items (c.loop-item.invariant e top ts k a) c.loop-item-test.true
    (λ u before s b. (given_by (c.in_ok-tested_truth.ensures.meant e top u k s)
    (λ us is. same_outcome (ap Ok (sym is ∙ c.is_true-keeps.ensures u)) (c.in_ok-push_if.ensures.meant c.args.bytes.now u before s b))).ok)

pub returns-clause-meant : goal.returns-clause-meant
returns-clause-meant c = λ e top ts k a. search (all_passed, c.loop-item.invariant e top ts k a, c.loop-item-test.false)
