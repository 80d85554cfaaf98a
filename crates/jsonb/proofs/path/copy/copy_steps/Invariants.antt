use Rattle.jsonb.proofs.Lemmas.{◌≡◌, take, map, step_view}
use Rattle.jsonb.proofs.path.copy.copy_steps.Given as goal

-- the steps before the index are copied
abbrev pub invariant-loop-step : goal.invariant-loop-step
invariant-loop-step l = map step_view l.copies.items ≡ map step_view (take l.step-index l.step-items)
