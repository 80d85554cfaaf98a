use Rattle.jsonb.proofs.Lemmas.{◌≡◌, [], map, take, steps_view, AreAhead, conditions_in, taken_step}
use Rattle.jsonb.proofs.selector.search.Conditions.add_all.Given as goal

abbrev pub invariant-loop-step : goal.invariant-loop-step
invariant-loop-step l = conditions_in l.fn.self ≡ []
    → AreAhead (take l.step-index l.steps) (map (taken_step l.expressions) (steps_view (take l.step-index l.steps))) (conditions_in l.self)
