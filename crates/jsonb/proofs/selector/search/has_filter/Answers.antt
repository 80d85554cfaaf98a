use Rattle.jsonb.proofs.Lemmas.{[], sym, ◌∙◌, arith, searched_more, plain_last}
use Rattle.jsonb.proofs.selector.search.has_filter.Goals.{in-Some, in-None+else-has_condition}
use Rattle.jsonb.proofs.selector.search.has_filter.Goals as goal

pub loop-step-preserved : goal.loop-step-preserved
loop-step-preserved c = λ none. elim c.match-filter_of.branch [
  | in-Some w ↦ grind (arith, w.has_filter-is, none)
  | in-None+else-has_condition w ↦
      searched_more c.args.expressions c.args.steps.now c.loop-step.step-index c.step-item.result [] c.loop-step-test.true c.step-item.is
      (plain_last c.args.expressions _ _ [] c.step-item.result (sym w.has_condition.ensures ∙ w.if-has_condition.false) w.in-None.ensures
      (c.loop-step.invariant (sym w.has_filter-is ∙ none)))
]
