use Rattle.jsonb.proofs.Lemmas.{◌≡◌, ◌≤◌, ◌++◌, false, has_document, iter_rest, steps_view, so_far_has_document, row_parts}
use Rattle.jsonb.proofs.path.own.owned_rest.Given as goal

-- the copies, followed by the rest, are all, and no document is copied
abbrev pub invariant-loop-step : goal.invariant-loop-step
invariant-loop-step l = record {
  kind : l.steps.kind ≡ l.fn.steps.kind;
  copy : steps_view l.steps.copies.items ++ steps_view (iter_rest l.steps.rest) ≡ steps_view l.fn.steps.copies.items ++ steps_view (iter_rest l.fn.steps.rest);
  fewer : row_parts (iter_rest l.steps.rest) ≤ row_parts (iter_rest l.fn.steps.rest);
  whole : so_far_has_document l.fn.steps ≡ false → has_document (steps_view l.steps.copies.items) ≡ false;
}

abbrev pub decreases-loop-step : goal.decreases-loop-step
decreases-loop-step l = row_parts (iter_rest l.steps.rest)
