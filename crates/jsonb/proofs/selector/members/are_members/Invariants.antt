use Rattle.jsonb.proofs.Lemmas.{◌≡◌, drop, steps_view, are_members}
use Rattle.jsonb.proofs.selector.members.are_members.Given as goal

abbrev pub invariant-loop-step : goal.invariant-loop-step
invariant-loop-step l = are_members (steps_view l.steps) ≡ are_members (steps_view (drop l.step-index l.steps))
