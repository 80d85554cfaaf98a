use Rattle.jsonb.proofs.Lemmas.{◌≡◌, ◌≤◌, ◌+◌, drop, capped, steps_items, steps_of, steps_view, total, steps_parts, waiting_parts}
use Rattle.jsonb.proofs.selector.most_items.Count.add_steps.Given as goal

-- what is counted and what the steps that are left add is what all steps add to the first count
abbrev pub invariant-loop-step : goal.invariant-loop-step
invariant-loop-step l = record {
  grows : capped (total l.size l.self + steps_items l.size (steps_of (steps_view (drop l.step-index l.steps))) l.list)
      ≡ capped (total l.size l.fn.self + steps_items l.size (steps_of (steps_view l.steps)) l.fn.first);
  parts : waiting_parts l.self + steps_parts (steps_of (steps_view (drop l.step-index l.steps)))
      ≤ waiting_parts l.fn.self + steps_parts (steps_of (steps_view l.steps));
}
