use Rattle.jsonb.proofs.Lemmas.{[], ◌∷◌, sym, ◌∙◌, ap, refl, number_view, value, expression_view, literal_view, operation, operand_values, binary_meaning, calculation, AreSelected, arith, failed_as, same_outcome, refused_as, one_given, literal_is, unary_is, binary_is, exists_is, value_is, meant, some_of, none_of}
use Rattle.jsonb_doc.specs.Tree.{number}
use Rattle.jsonb.proofs.selector.whole_path.expression_selection.Goals as goal

pub returns-in-Value-clause-meant : goal.returns-in-Value-clause-meant
returns-in-Value-clause-meant c = λ form top outcome r h.
    c.literal_selection.ensures.meant form c.args.context.now.document c.args.context.now.mode top outcome
    (meant form c.args.context.now.mode top outcome _ _ (literal_is c.args.e.now c.in-Value.value c.in-Value.is ∙ ap (λ v. value (literal_view v))
    (sym c.deref.ensures)) h)

pub returns-in_err-numbers-in-UnaryOp-clause-meant : goal.returns-in_err-numbers-in-UnaryOp-clause-meant
returns-in_err-numbers-in-UnaryOp-clause-meant c = λ form top outcome r h.
    grind (
      arith,
      c.from_residual.ensures.1,
      meant form c.args.context.now.mode top outcome _ _ (unary_is c.args.e.now c.in-UnaryOp.op c.in-UnaryOp.operand c.in-UnaryOp.is) h,
      c.deref-in-UnaryOp.ensures,
      c.in_err-numbers-in-UnaryOp.ensures.meant top r,
    )

pub returns-in_ok-numbers-in-UnaryOp-clause-meant : goal.returns-in_ok-numbers-in-UnaryOp-clause-meant
returns-in_ok-numbers-in-UnaryOp-clause-meant c = λ form top outcome r h.
    grind (
      arith,
      meant form c.args.context.now.mode top outcome _ _ (unary_is c.args.e.now c.in-UnaryOp.op c.in-UnaryOp.operand c.in-UnaryOp.is) h,
      c.deref-in-UnaryOp.ensures,
    )

pub returns-in_err-number-in-BinaryOp-clause-meant : goal.returns-in_err-number-in-BinaryOp-clause-meant
returns-in_err-number-in-BinaryOp-clause-meant c = λ form top outcome r h.
    let o = some_of (operation c.in-BinaryOp.op) (sym c.is_arithmetic.ensures ∙ c.if-is_arithmetic.true) in
    failed_as c.from_residual-in_err-number-in-BinaryOp.ensures.1
    (same_outcome (meant form c.args.context.now.mode top outcome _ _
    (binary_is c.args.e.now c.in-BinaryOp.op c.in-BinaryOp.left c.in-BinaryOp.right c.in-BinaryOp.is) h
    ∙ ap (λ x. binary_meaning c.args.context.now.mode x c.in-BinaryOp.op (expression_view c.in-BinaryOp.left.value)
    (expression_view c.in-BinaryOp.right.value) top) o.1
    ∙ (λ i. calculation o.0 (operand_values c.args.context.now.mode (expression_view (sym c.deref-then-is_arithmetic.ensures i)) top top)
    (operand_values c.args.context.now.mode (expression_view (sym c.deref-then-is_arithmetic-2.ensures i)) top top)))
    (refused_as (c.in_err-number-in-BinaryOp.ensures.meant top o.0 r o.1)))

pub returns-in_ok-number-in-BinaryOp-clause-meant : goal.returns-in_ok-number-in-BinaryOp-clause-meant
returns-in_ok-number-in-BinaryOp-clause-meant c = λ form top outcome r h.
    let o = some_of (operation c.in-BinaryOp.op) (sym c.is_arithmetic.ensures ∙ c.if-is_arithmetic.true) in
    same_outcome (meant form c.args.context.now.mode top outcome _ _ (binary_is c.args.e.now c.in-BinaryOp.op c.in-BinaryOp.left c.in-BinaryOp.right
    c.in-BinaryOp.is) h
    ∙ ap (λ x. binary_meaning c.args.context.now.mode x c.in-BinaryOp.op (expression_view c.in-BinaryOp.left.value)
    (expression_view c.in-BinaryOp.right.value) top) o.1
    ∙ (λ i. calculation o.0 (operand_values c.args.context.now.mode (expression_view (sym c.deref-then-is_arithmetic.ensures i)) top top)
    (operand_values c.args.context.now.mode (expression_view (sym c.deref-then-is_arithmetic-2.ensures i)) top top))
    ∙ value_is {x = number (number_view c.in_ok-number-in-BinaryOp.number) ∷ []} ((c.in_ok-number-in-BinaryOp.ensures.meant top o.0 r o.1).ok))
    (one_given (AreSelected form c.args.context.now.document) _
    (refl, tt))

pub returns-else-is_arithmetic-clause-meant : goal.returns-else-is_arithmetic-clause-meant
returns-else-is_arithmetic-clause-meant c = λ form top outcome r h.
    let view = binary_is c.args.e.now c.in-BinaryOp.op c.in-BinaryOp.left c.in-BinaryOp.right c.in-BinaryOp.is in
    grind (
      arith,
      meant form c.args.context.now.mode top outcome _ _ view h,
      none_of (operation c.in-BinaryOp.op) (sym c.is_arithmetic.ensures ∙ c.if-is_arithmetic.false),
      view,
      c.whole_truth.ensures.meant form top r,
    )

pub returns-in-ExistsFunc-clause-meant : goal.returns-in-ExistsFunc-clause-meant
returns-in-ExistsFunc-clause-meant c = λ form top outcome r h.
    let view = exists_is c.args.e.now c.in-ExistsFunc.field-0 c.in-ExistsFunc.is in
    grind (arith, meant form c.args.context.now.mode top outcome _ _ view h, view, c.whole_truth-in-ExistsFunc.ensures.meant form top r)
