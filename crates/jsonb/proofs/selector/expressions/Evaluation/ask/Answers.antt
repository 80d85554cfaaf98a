use Rattle.jsonb.proofs.Lemmas.{◌≡◌, ◌==◌, ◌∙◌, Err, InvalidJsonPath, false, true, inl, inr, sym, ap, length, reverse, arith, Locates, IsTruth, is_comparison, node_spots, truth, operand_values, compared_values, path_steps, exists, expression_view, if_ok_as, same_each, comparison_is, leads_as, paths_is, literal_is, binary_is, unary_is, exists_is, some_items}
use Rattle.jsonb.proofs.selector.expressions.Evaluation.ask.Goals as goal

pub returns-in-BinaryOp-clause-meant : goal.returns-in-BinaryOp-clause-meant
returns-in-BinaryOp-clause-meant c = λ aim top ts has at leads.
    let mode = c.args.self.now.context.mode in
    let bytes = c.args.self.now.context.document.bytes.now in
    let spots = node_spots c.args.self.now.items in
    let filled : (length spots == 0) ≡ false = grind (arith, c.is_empty.ensures, c.as_slice.ensures, c.if-is_empty.false) in
    let some = some_items (Locates bytes) spots ts at filled in
    let view = binary_is c.args.e.now c.in-BinaryOp.op c.in-BinaryOp.left c.in-BinaryOp.right c.in-BinaryOp.is in
    let compares : is_comparison c.in-BinaryOp.op ≡ true = grind (arith, view, c.in_default.ensures, c.in_default-plain_question.ensures) in
    if_ok_as c.left.result (λ next l. record { trees = ts; items = at; leads = l })
    (c.left.ensures.meant aim top ts (reverse c.args.self.now.frames.items) has at some
    (leads_as aim c.args.self.now.context top ts (truth mode (expression_view c.args.e.now) top) _ (reverse c.args.self.now.frames.items)
    (λ t. ap (λ x. truth mode x top t) view
    ∙ comparison_is mode c.in-BinaryOp.op (expression_view c.in-BinaryOp.left.value) (expression_view c.in-BinaryOp.right.value) top t compares
    ∙ ap (λ l. compared_values c.in-BinaryOp.op (operand_values mode (expression_view l) top t) (operand_values mode (expression_view c.in-BinaryOp.right.value) top t)) (sym c.deref.ensures)
    ∙ ap (λ r. compared_values c.in-BinaryOp.op (operand_values mode (expression_view c.deref.result.now) top t) (operand_values mode (expression_view r) top t)) (sym c.deref-in-BinaryOp.ensures)) leads))

pub returns-in-ExistsFunc-clause-meant : goal.returns-in-ExistsFunc-clause-meant
returns-in-ExistsFunc-clause-meant c = λ aim top ts has at leads.
    let mode = c.args.self.now.context.mode in
    let bytes = c.args.self.now.context.document.bytes.now in
    let spots = node_spots c.args.self.now.items in
    let filled : (length spots == 0) ≡ false = grind (arith, c.is_empty.ensures, c.as_slice.ensures, c.if-is_empty.false) in
    let some = some_items (Locates bytes) spots ts at filled in
    let view = exists_is c.args.e.now c.in-ExistsFunc.steps c.in-ExistsFunc.is in
    if_ok_as c.exists.result (λ next l. record { trees = ts; items = at; leads = l })
    (c.exists.ensures.meant aim top ts (reverse c.args.self.now.frames.items) has at some
    (leads_as aim c.args.self.now.context top ts (truth mode (expression_view c.args.e.now) top) _ (reverse c.args.self.now.frames.items)
    (λ t. ap (λ x. truth mode x top t) view ∙ ap (λ l. truth mode (exists (path_steps l)) top t) (sym c.deref-in-ExistsFunc.ensures.value)) leads))

pub returns-in-Paths-clause-meant : goal.returns-in-Paths-clause-meant
returns-in-Paths-clause-meant c = λ aim top ts has at leads.
    let mode = c.args.self.now.context.mode in
    let bytes = c.args.self.now.context.document.bytes.now in
    let spots = node_spots c.args.self.now.items in
    let filled : (length spots == 0) ≡ false = grind (arith, c.is_empty.ensures, c.as_slice.ensures, c.if-is_empty.false) in
    let some = some_items (Locates bytes) spots ts at filled in
    let f = truth mode (expression_view c.args.e.now) top in
    record {
      trees = ts;
      items = at;
      leads = (
        f,
        same_each (λ said t. IsTruth said (f t)) (Err InvalidJsonPath) ts some (λ t. record {
          ok = tt;
          err = inr (elim c.in-Paths.is [
            | inl p ↦ ap (λ x. truth mode x top t) (paths_is c.args.e.now p.0 p.1)
            | inr r ↦ elim r [
              | inl v ↦ ap (λ x. truth mode x top t) (literal_is c.args.e.now v.0 v.1)
              | inr u ↦ ap (λ x. truth mode x top t) (unary_is c.args.e.now u.0 u.1 u.2)
            ]
          ]);
        }),
        leads,
      );
    }
