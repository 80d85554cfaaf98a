use Rattle.jsonb.proofs.Lemmas.{◌≡◌, ◌≤◌, ◌++◌, iter_rest, steps_view, row_parts}
use Rattle.jsonb.proofs.path.copy.copied_steps.Given as goal

-- the copies, followed by the rest, are all
abbrev pub invariant-loop-step : goal.invariant-loop-step
invariant-loop-step l = record {
  kind : l.steps.kind ≡ l.fn.steps.kind;
  whole : steps_view l.steps.copies.items ++ steps_view (iter_rest l.steps.rest) ≡ steps_view l.fn.steps.copies.items ++ steps_view (iter_rest l.fn.steps.rest);
  fewer : row_parts (iter_rest l.steps.rest) ≤ row_parts (iter_rest l.fn.steps.rest);
}

abbrev pub decreases-loop-step : goal.decreases-loop-step
decreases-loop-step l = row_parts (iter_rest l.steps.rest)
