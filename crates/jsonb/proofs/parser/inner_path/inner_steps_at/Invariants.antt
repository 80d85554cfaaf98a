use Rattle.jsonb.proofs.Lemmas.{◌≡◌, ◌≤◌, length, repeat, spaced_inner, path_step, steps_view, behind}
use Rattle.jsonb.proofs.parser.inner_path.inner_steps_at.Given as goal

-- the steps so far, and those that are still read
abbrev pub invariant-loop-steps : goal.invariant-loop-steps
invariant-loop-steps l = record {
  read : behind (steps_view l.steps.items) (repeat spaced_inner l.rest) ≡ behind (steps_view l.fn.steps.items) (repeat spaced_inner l.fn.input);
  behind : behind (steps_view l.steps.items) (repeat path_step l.rest) ≡ behind (steps_view l.fn.steps.items) (repeat path_step l.fn.input);
  shorter : length l.rest ≤ length l.fn.input;
}

abbrev pub decreases-loop-steps : goal.decreases-loop-steps
decreases-loop-steps l = length l.rest
