use Rattle.jsonb.proofs.Lemmas.{rules, [], sym, subst, take_all, AreAhead, searched_more}
use Rattle.jsonb.proofs.selector.search.Conditions.add_all.Goals as goal

pub loop-step-init : goal.loop-step-init
loop-step-init c = λ none. subst (λ l. AreAhead [] [] l) (sym none) tt

pub loop-step-preserved : goal.loop-step-preserved
loop-step-preserved c = λ none.
    searched_more c.args.expressions c.args.steps.now c.loop-step.step-index c.step-item.result _ c.loop-step-test.true c.step-item.is
    (c.in_ok-fits.ensures.added _ _ (c.loop-step.invariant none) c.if-not-fits.false)

pub returns-clause-added : goal.returns-clause-added
returns-clause-added c = search (rules, take_all)
