use Rattle.jsonb.proofs.Lemmas.{rules, ◌∙◌, sym, ap, steps_view, exists_closed, opened_outcome, opening_outcome, without_bound, steps-open, steps-end, filter-unclosed}
use Rattle.jsonb.proofs.parser.opening.exists_from.Goals as goal

pub returns-in-Some-clause-value : goal.returns-in-Some-clause-value
unfolding opening_outcome opened_outcome
returns-in-Some-clause-value c = λ f.
    ap exists_closed (steps-open (steps_view c.in_ok-steps.steps.items) c.in_ok-steps.rest.now c.in-Some.inside.now c.in_ok-steps.ensures.no_more
    (sym c.in-Some.ensures.value)
    ∙ without_bound _ (steps_view c.args.steps.items) c.in_ok-steps.rest.now c.args.input.now c.in_ok-steps.ensures.behind)

pub returns-in-Some-clause-is_opening : goal.returns-in-Some-clause-is_opening
returns-in-Some-clause-is_opening c = search (rules, filter-unclosed)

pub returns-clause-value : goal.returns-clause-value
returns-clause-value c = λ f.
    c.exists_end.ensures.value f
    ∙ ap exists_closed (sym (steps-end (steps_view c.in_ok-steps.steps.items) c.in_ok-steps.rest.now c.in_ok-steps.ensures.no_more
    (sym c.in_default.ensures.value))
    ∙ without_bound _ (steps_view c.args.steps.items) c.in_ok-steps.rest.now c.args.input.now c.in_ok-steps.ensures.behind)
