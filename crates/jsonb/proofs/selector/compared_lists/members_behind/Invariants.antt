use Rattle.jsonb.proofs.Lemmas.{◌≡◌, ◌≤◌, drop, length, true, steps_view, are_members}
use Rattle.jsonb.proofs.selector.compared_lists.members_behind.Given as goal

abbrev pub invariant-loop-start : goal.invariant-loop-start
invariant-loop-start l = record {
  within : l.start ≤ length l.steps;
  members : are_members (steps_view (drop l.start l.steps)) ≡ true;
}

abbrev pub decreases-loop-start : goal.decreases-loop-start
decreases-loop-start l = l.start
