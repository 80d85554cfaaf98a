use Rattle.jsonb.proofs.Lemmas.{◌≡◌, [], false, map, take, steps_view, AreAhead, taken_step}
use Rattle.jsonb.proofs.selector.search.has_filter.Given as goal

abbrev pub invariant-loop-step : goal.invariant-loop-step
invariant-loop-step l = l.has_filter ≡ false
    → AreAhead (take l.step-index l.steps) (map (taken_step l.expressions) (steps_view (take l.step-index l.steps))) []
