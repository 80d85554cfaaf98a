use Rattle.jsonb.proofs.Lemmas.{rules, ◌∙◌, ap, None, partial_outcome, partial-begins, less_left}
use Rattle.jsonb.proofs.parser.expression.expression_at.Goals as goal

pub returns-clause-value : goal.returns-clause-value
returns-clause-value c = search (rules, partial-begins)

pub returns-clause-shrinks : goal.returns-clause-shrinks
returns-clause-shrinks c = less_left c.args.is_in_filter c.args.input.now c.expression_from.result
    (rw (ap (partial_outcome (record { is_in_filter = c.args.is_in_filter; all = None; any = None })) c.in_ok-first.ensures.value
    ∙ partial-begins c.args.is_in_filter c.args.input.now) at c.expression_from.ensures)
