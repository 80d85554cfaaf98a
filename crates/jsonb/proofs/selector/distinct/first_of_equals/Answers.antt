use Rattle.jsonb.proofs.Lemmas.{rules, Locates, arith, no_spot, list_first, list_end, one_tree, thinned_start, thinned_more, thinned_end}
use Rattle.jsonb.proofs.selector.distinct.first_of_equals.Goals as goal

pub loop-item-init : goal.loop-item-init
loop-item-init c = search (rules, thinned_start)

pub loop-item-preserved : goal.loop-item-preserved
loop-item-preserved c = λ bytes ts a.
    thinned_more (Locates bytes) (one_tree bytes) c.loop-item.nodes.items c.push_first.new.nodes.items _ _ _ ts (c.loop-item.invariant bytes ts a)
    (list_first (Locates bytes) c.args.items.now c.loop-item.item-index no_spot c.loop-item-test.true) c.in_ok-push_first.ensures.pushed

pub returns-clause-meant : goal.returns-clause-meant
returns-clause-meant c = λ bytes ts a. grind (arith, thinned_end, list_end, c.loop-item.invariant bytes ts a, c.loop-item-test.false)
