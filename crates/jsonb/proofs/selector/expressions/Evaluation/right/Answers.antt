use Rattle.jsonb.proofs.Lemmas.{Tree, Ok, ◌∷◌, [], ap, sym, ◌∙◌, start, steps_meaning, path_steps, operand_values, expression_view, AreValues, compared_values, values_found, same_each, literal_values, truths_as}
use Rattle.jsonb.proofs.selector.expressions.Evaluation.right.Goals as goal

pub returns-in-Literal-clause-meant : goal.returns-in-Literal-clause-meant
returns-in-Literal-clause-meant c = λ h aim top ts frames has at some ls leads.
    let k = λ (t : Tree). operand_values c.args.self.now.context.mode (expression_view c.args.right.now) top t in
    let literal = rw c.in-Literal.is at (c.in_ok-literal.ensures.meant top ts has at some) in (
      (λ t. compared_values c.args.op (h t) (k t)),
      c.in_ok-compared-in-Literal.ensures.meant h k ts ls (same_each (λ said t. AreValues said (k t)) _ ts some
          (λ t. literal_values c.value_of_literal.result _ (k t) c.value_of_literal.ensures (literal t))),
      leads,
    )

pub returns-in-Lists-clause-meant : goal.returns-in-Lists-clause-meant
returns-in-Lists-clause-meant c = λ h aim top ts frames has at some ls leads.
    let k = λ (t : Tree). operand_values c.args.self.now.context.mode (expression_view c.args.right.now) top t in
    let lists = rw c.in-Lists.is at (c.in_ok-literal.ensures.meant top ts has at some) in (
      (λ t. compared_values c.args.op (h t) (k t)),
      truths_as (λ t. compared_values c.args.op (h t) (values_found (lists.0 t))) (λ t. compared_values c.args.op (h t) (k t))
          (λ t. ap (λ v. compared_values c.args.op (h t) v) (lists.2 t)) _ ts (c.in_ok-compared_lists-in-Lists.ensures.meant h lists.0 ts ls lists.1),
      leads,
    )

pub returns-clause-meant : goal.returns-clause-meant
returns-clause-meant c = λ h aim top ts frames has at some ls leads.
    let mode = c.args.self.now.context.mode in
    let k = λ (t : Tree). operand_values mode (expression_view c.args.right.now) top t in
    let path = rw c.in-Path.is at (c.in_ok-literal.ensures.meant top ts has at some) in
    let steps = c.in-Path.path.steps.now in (
      (λ t. Ok (start (path_steps steps) top t ∷ [])),
      (λ t. compared_values c.args.op (h t) (k t)),
      c.in_ok-walk-in-Path.ensures.meant top ts has at some,
      (
        h,
        ls,
        λ t. ap (λ v. compared_values c.args.op (h t) v) (path t
            ∙ ap (λ s. values_found (steps_meaning mode (path_steps s) top (start (path_steps steps) top t ∷ []))) (sym c.in_ok-walk-in-Path.ensures.steps)),
      ),
      leads,
    )
