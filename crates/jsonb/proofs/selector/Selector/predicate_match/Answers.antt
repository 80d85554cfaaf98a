use Rattle.jsonb.proofs.Lemmas.{ap, sym, ◌∙◌, steps_view, path_view, expression_view, predicate, only_expression, same_outcome, lone_is}
use Rattle.jsonb.proofs.selector.Selector.predicate_match.Goals as goal

pub returns-in_ok-context-in-Some-clause-truth : goal.returns-in_ok-context-in-Some-clause-truth
returns-in_ok-context-in-Some-clause-truth c = λ form top d.
    same_outcome (ap (λ p. predicate c.args.self.now.mode p top)
    (lone_is (path_view c.args.path.now) (expression_view c.in-Some.e.now)
    (ap (λ l. only_expression (steps_view l)) (sym c.deref.ensures.value) ∙ c.in-Some.ensures)))
    ((rw c.in_ok-context-in-Some.ensures.mode at c.expression_truth.ensures.meant) top (c.in_ok-context-in-Some.ensures.meant form top d).1)

pub returns-in-Some-root_compared-clause-truth : goal.returns-in-Some-root_compared-clause-truth
returns-in-Some-root_compared-clause-truth c = λ form top d.
    same_outcome (ap (λ p. predicate c.args.self.now.mode p top)
    (lone_is (path_view c.args.path.now) (expression_view c.in-Some.e.now)
    (ap (λ l. only_expression (steps_view l)) (sym c.deref.ensures.value) ∙ c.in-Some.ensures)))
    (c.root_compared_truth.ensures.meant form (expression_view c.in-Some.e.now) top c.in-Some-root_compared.ensures (rw (sym c.as_bytes.ensures) at d))
