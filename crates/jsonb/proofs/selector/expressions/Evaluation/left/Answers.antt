use Rattle.jsonb.proofs.Lemmas.{Tree, Ok, ◌∷◌, [], ap, sym, ◌∙◌, start, steps_meaning, path_steps, operand_values, expression_view, compared_values, values_found}
use Rattle.jsonb.proofs.selector.expressions.Evaluation.left.Goals as goal

pub returns-in-Literal-clause-meant : goal.returns-in-Literal-clause-meant
returns-in-Literal-clause-meant c = λ aim top ts frames has at some leads.
    let k = λ (t : Tree). operand_values c.args.self.now.context.mode (expression_view c.args.left.now) top t in
    c.right.ensures.meant k aim top ts frames has at some (rw c.in-Literal.is at (c.in_ok-literal.ensures.meant top ts has at some)) leads

pub returns-in-Lists-clause-meant : goal.returns-in-Lists-clause-meant
returns-in-Lists-clause-meant c = λ aim top ts frames has at some leads.
    let k = λ (t : Tree). operand_values c.args.self.now.context.mode (expression_view c.args.left.now) top t in
    c.right-in-Lists.ensures.meant k aim top ts frames has at some (rw c.in-Lists.is at (c.in_ok-literal.ensures.meant top ts has at some)) leads

pub returns-in_ok-walk-in-Path-clause-meant : goal.returns-in_ok-walk-in-Path-clause-meant
returns-in_ok-walk-in-Path-clause-meant c = λ aim top ts frames has at some leads.
    let mode = c.args.self.now.context.mode in
    let k = λ (t : Tree). operand_values mode (expression_view c.args.left.now) top t in
    let r = λ (t : Tree). operand_values mode (expression_view c.args.right.now) top t in
    let path = rw c.in-Path.is at (c.in_ok-literal.ensures.meant top ts has at some) in
    let steps = c.in-Path.path.steps.now in (
      (λ t. Ok (start (path_steps steps) top t ∷ [])),
      (λ t. compared_values c.args.op (k t) (r t)),
      c.in_ok-walk-in-Path.ensures.meant top ts has at some,
      (
        some,
        λ t. ap (λ v. compared_values c.args.op v (r t)) (path t
            ∙ ap (λ s. values_found (steps_meaning mode (path_steps s) top (start (path_steps steps) top t ∷ []))) (sym c.in_ok-walk-in-Path.ensures.steps)),
      ),
      leads,
    )
