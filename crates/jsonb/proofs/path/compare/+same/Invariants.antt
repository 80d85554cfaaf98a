use Rattle.jsonb.proofs.Lemmas.{◌≡◌, ◌+◌, ◌*◌, ◌≤◌, drop, iter_rest, steps_of, step_view, steps_view, expression_view, step_parts, parts, are_same_steps, is_same_expression, same_next, next_parts, row_parts}
use Rattle.jsonb.proofs.path.compare.+same.Given as goal

-- each looks at fewer parts than the one that calls it, or of the same parts at what precedes the last ones
abbrev pub decreases-same_chain : goal.decreases-same_chain
decreases-same_chain l = 4 * parts l.expression.now + 2

abbrev pub decreases-same_expression : goal.decreases-same_expression
decreases-same_expression l = 4 * parts l.expression.now + 1

abbrev pub decreases-same_before : goal.decreases-same_before
decreases-same_before l = 4 * parts l.expression.now

abbrev pub decreases-same_before_last : goal.decreases-same_before_last
decreases-same_before_last l = 4 * row_parts l.steps.now.items + 2

abbrev pub decreases-same_steps : goal.decreases-same_steps
decreases-same_steps l = 4 * row_parts l.steps.now + 1

abbrev pub decreases-same_opening : goal.decreases-same_opening
decreases-same_opening l = 4 * step_parts (step_view l.step.now) + 1

abbrev pub decreases-same_step : goal.decreases-same_step
decreases-same_step l = 4 * step_parts (step_view l.step.now)

-- what is left decides what all decides
abbrev pub invariant-same_steps-loop-step : goal.invariant-same_steps-loop-step
invariant-same_steps-loop-step l =
    are_same_steps (steps_of (steps_view l.fn.steps)) (steps_of (steps_view l.fn.others))
    ≡ are_same_steps (steps_of (steps_view (drop l.step-index l.steps))) (steps_of (steps_view (iter_rest l.rest)))

abbrev pub invariant-same_expression-loop-next : goal.invariant-same_expression-loop-next
invariant-same_expression-loop-next l = record {
  same : is_same_expression (expression_view l.fn.expression) (expression_view l.fn.other) ≡ same_next l.next;
  fewer : next_parts l.next ≤ parts l.fn.expression;
}

abbrev pub decreases-same_expression-loop-next : goal.decreases-same_expression-loop-next
decreases-same_expression-loop-next l = next_parts l.next

abbrev pub invariant-same_chain-loop-inner : goal.invariant-same_chain-loop-inner
invariant-same_chain-loop-inner l = record {
  same : is_same_expression (expression_view l.fn.expression) (expression_view l.fn.other)
      ≡ is_same_expression (expression_view l.inner) (expression_view l.other_inner);
  fewer : parts l.inner ≤ parts l.fn.expression;
}

abbrev pub decreases-same_chain-loop-inner : goal.decreases-same_chain-loop-inner
decreases-same_chain-loop-inner l = parts l.inner
