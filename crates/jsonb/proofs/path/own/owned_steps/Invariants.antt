use Rattle.jsonb.proofs.Lemmas.{◌≡◌, take, map, false, has_document, step_view, steps_view}
use Rattle.jsonb.proofs.path.own.owned_steps.Given as goal

-- the steps before the index are copied, and have no document
abbrev pub invariant-loop-step : goal.invariant-loop-step
invariant-loop-step l = record {
  copied : map step_view l.copies.items ≡ map step_view (take l.step-index l.step-items);
  whole : has_document (steps_view (take l.step-index l.step-items)) ≡ false;
}
