use Rattle.jsonb.proofs.Lemmas.{◌≡◌, drop, after_steps, steps_of, steps_view}
use Rattle.jsonb.proofs.selector.most_items.after_steps.Given as goal

-- the steps that are left make of this list what all make of the first
abbrev pub invariant-loop-step : goal.invariant-loop-step
invariant-loop-step l =
    after_steps l.size (steps_of (steps_view l.steps)) l.fn.first
    ≡ after_steps l.size (steps_of (steps_view (drop l.step-index l.steps))) l.list
