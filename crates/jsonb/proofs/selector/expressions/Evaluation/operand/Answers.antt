use Rattle.jsonb.proofs.Lemmas.{◌≡◌, Err, InvalidJsonPath, inl, inr, refl, sym, ap, ◌∙◌, ◌∷◌, [], arith, start, true, steps_meaning, steps_view, are_members, path_steps, operand_values, values_found, IsList, same_each, paths_is, binary_is, unary_is, exists_is}
use Rattle.jsonb.proofs.selector.expressions.Evaluation.operand.Goals as goal

pub returns-in_ok-members-in-Paths-clause-meant : goal.returns-in_ok-members-in-Paths-clause-meant
returns-in_ok-members-in-Paths-clause-meant c = λ top ts has at some.
    let mode = c.args.self.now.context.mode in
    let steps = c.deref-in-Paths.result.now in
    let named : are_members (steps_view steps) ≡ true = grind (arith, c.are_members.ensures, c.if-are_members.true, c.deref.ensures.value, c.deref-in-Paths.ensures.value) in (
      (λ t. steps_meaning mode (path_steps steps) top (start (path_steps steps) top t ∷ [])),
      c.in_ok-members-in-Paths.ensures.meant top ts named has at some,
      λ t. ap (λ x. operand_values mode x top t) (paths_is c.args.e.now c.in-Paths.steps c.in-Paths.is)
          ∙ ap (λ l. values_found (steps_meaning mode (path_steps l) top (start (path_steps l) top t ∷ []))) (sym c.deref-in-Paths.ensures.value),
    )

pub returns-in-BinaryOp-clause-meant : goal.returns-in-BinaryOp-clause-meant
returns-in-BinaryOp-clause-meant c = λ top ts has at some. (
  λ t. Err InvalidJsonPath,
  same_each (λ said t. IsList c.args.self.now.context.document.bytes.now said (Err InvalidJsonPath)) (Err InvalidJsonPath) ts some (λ t. record { ok = tt; err = inr refl }),
  λ t. elim c.in-BinaryOp.is [
    | inl b ↦ ap (λ x. operand_values c.args.self.now.context.mode x top t) (binary_is c.args.e.now b.0 b.1 b.2 b.3)
    | inr r ↦ elim r [
      | inl u ↦ ap (λ x. operand_values c.args.self.now.context.mode x top t) (unary_is c.args.e.now u.0 u.1 u.2)
      | inr x ↦ ap (λ x. operand_values c.args.self.now.context.mode x top t) (exists_is c.args.e.now x.0 x.1)
    ]
  ],
)
