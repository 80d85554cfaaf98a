use Rattle.jsonb.proofs.Lemmas.{◌≡◌, ℕ, take, List, ◌++◌, ◌+◌, ◌*◌, ◌≤◌, HasWritten, IsPlainFormatter, steps_text, steps_of, step_view, steps_view, expression_view, down, text_before, step_parts, parts, down_of, seen, parts_of, row_parts}
use Rattle.jsonb.proofs.path.display.+write.Given as goal

-- the steps before the index are written
abbrev pub invariant-write_steps-loop-step : goal.invariant-write_steps-loop-step
invariant-write_steps-loop-step g l =
    IsPlainFormatter l.initial.f → HasWritten g.W.Write.write_str_gives l.initial.f (steps_text (steps_of (steps_view
    (take l.step-index l.steps)))) l.f

-- what is written so far, followed by what the next one and those below it give, is the whole
abbrev pub invariant-write_down-loop-next : goal.invariant-write_down-loop-next
invariant-write_down-loop-next g l = record {
  written : IsPlainFormatter l.initial.f → (text : List ℕ) × HasWritten g.W.Write.write_str_gives l.initial.f text l.f
      × (text ++ down_of text_before (seen l.next) ≡ down text_before (expression_view l.fn.expression));
  fewer : parts_of (seen l.next) ≤ parts l.fn.expression;
}

abbrev pub decreases-write_down-loop-next : goal.decreases-write_down-loop-next
decreases-write_down-loop-next g l = parts_of (seen l.next)

-- Each writes fewer parts than the one that calls it, or of the same part fewer links. A number of links is below
-- 2 ^ 64.
abbrev pub decreases-write_steps : goal.decreases-write_steps
decreases-write_steps g l = 0x40000000000000000 * row_parts l.steps.now + 1

abbrev pub decreases-write_step : goal.decreases-write_step
decreases-write_step g l = 0x40000000000000000 * step_parts (step_view l.step.now)

abbrev pub decreases-write_expression : goal.decreases-write_expression
decreases-write_expression g l = 0x40000000000000000 * parts l.expression.now + 0x20000000000000002

abbrev pub decreases-write_down : goal.decreases-write_down
decreases-write_down g l = 0x40000000000000000 * parts l.expression.now + 0x20000000000000001

abbrev pub decreases-write_before : goal.decreases-write_before
decreases-write_before g l = 0x40000000000000000 * parts l.expression.now + 0x20000000000000000

abbrev pub decreases-write_before_last : goal.decreases-write_before_last
decreases-write_before_last g l = 0x40000000000000000 * row_parts l.steps.now.items + 2

abbrev pub decreases-write_step_before : goal.decreases-write_step_before
decreases-write_step_before g l = 0x40000000000000000 * step_parts (step_view l.step.now) + 1

abbrev pub decreases-write_chain : goal.decreases-write_chain
decreases-write_chain g l = 0x40000000000000000 * parts l.expression.now + 0x20000000000000003

abbrev pub decreases-write_side : goal.decreases-write_side
decreases-write_side g l = 0x40000000000000000 * parts l.side.now + 0x20000000000000003

abbrev pub decreases-write_links : goal.decreases-write_links
decreases-write_links g l = 0x40000000000000000 * parts l.chain.now + l.links

abbrev pub decreases-write_link : goal.decreases-write_link
decreases-write_link g l = 0x40000000000000000 * parts l.pair.now
