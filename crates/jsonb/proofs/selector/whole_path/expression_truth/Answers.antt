use Rattle.jsonb.proofs.Lemmas.{sym, ◌∙◌, ap, steps_of, steps_view, expression_view, operation, truth, expression_predicate, arith, same_outcome, binary_predicate, predicate_by_cases, unary_is, binary_is, exists_is, some_of, none_of}
use Rattle.jsonb.specs.PathTree as math
use Rattle.jsonb.proofs.selector.whole_path.expression_truth.Goals as goal

pub returns-in_err-_numbers-in-UnaryOp-clause-meant : goal.returns-in_err-_numbers-in-UnaryOp-clause-meant
returns-in_err-_numbers-in-UnaryOp-clause-meant c = λ top r.
    grind (
      arith,
      c.from_residual.ensures.1,
      unary_is c.args.e.now c.in-UnaryOp.op c.in-UnaryOp.operand c.in-UnaryOp.is,
      predicate_by_cases c.args.context.now.mode (math.unary c.in-UnaryOp.op (expression_view c.in-UnaryOp.operand.value)) top,
      c.deref.ensures,
      c.in_err-_numbers-in-UnaryOp.ensures.meant top r,
    )

pub returns-in_ok-_numbers-in-UnaryOp-clause-meant : goal.returns-in_ok-_numbers-in-UnaryOp-clause-meant
returns-in_ok-_numbers-in-UnaryOp-clause-meant c = λ top r.
    grind (
      arith,
      unary_is c.args.e.now c.in-UnaryOp.op c.in-UnaryOp.operand c.in-UnaryOp.is,
      predicate_by_cases c.args.context.now.mode (math.unary c.in-UnaryOp.op (expression_view c.in-UnaryOp.operand.value)) top,
      c.deref.ensures,
      c.in_ok-_numbers-in-UnaryOp.ensures.meant top r,
    )

pub returns-in_err-_number-in-BinaryOp-clause-meant : goal.returns-in_err-_number-in-BinaryOp-clause-meant
returns-in_err-_number-in-BinaryOp-clause-meant c = λ top r.
    let o = some_of (operation c.in-BinaryOp.op) (sym c.is_arithmetic.ensures ∙ c.if-is_arithmetic.true) in
    grind (
      arith,
      c.from_residual-in_err-_number-in-BinaryOp.ensures.1,
      binary_is c.args.e.now c.in-BinaryOp.op c.in-BinaryOp.left c.in-BinaryOp.right c.in-BinaryOp.is,
      o.1,
      c.in_err-_number-in-BinaryOp.ensures.meant top o.0 r o.1,
    )

pub returns-in_ok-_number-in-BinaryOp-clause-meant : goal.returns-in_ok-_number-in-BinaryOp-clause-meant
returns-in_ok-_number-in-BinaryOp-clause-meant c = λ top r.
    let o = some_of (operation c.in-BinaryOp.op) (sym c.is_arithmetic.ensures ∙ c.if-is_arithmetic.true) in
    grind (
      arith,
      binary_is c.args.e.now c.in-BinaryOp.op c.in-BinaryOp.left c.in-BinaryOp.right c.in-BinaryOp.is,
      o.1,
      c.in_ok-_number-in-BinaryOp.ensures.meant top o.0 r o.1,
    )

pub returns-else-is_arithmetic-clause-meant : goal.returns-else-is_arithmetic-clause-meant
returns-else-is_arithmetic-clause-meant c = λ top r.
    let view = binary_is c.args.e.now c.in-BinaryOp.op c.in-BinaryOp.left c.in-BinaryOp.right c.in-BinaryOp.is in
    same_outcome (ap (λ x. expression_predicate c.args.context.now.mode x top) view
    ∙ predicate_by_cases c.args.context.now.mode
    (math.binary c.in-BinaryOp.op (expression_view c.in-BinaryOp.left.value) (expression_view c.in-BinaryOp.right.value)) top
    ∙ ap (λ x. binary_predicate c.args.context.now.mode x c.in-BinaryOp.op (expression_view c.in-BinaryOp.left.value)
    (expression_view c.in-BinaryOp.right.value) top)
    (none_of (operation c.in-BinaryOp.op) (sym c.is_arithmetic.ensures ∙ c.if-is_arithmetic.false))
    ∙ ap (λ x. truth c.args.context.now.mode x top top) (sym view)) (c.root_truth.ensures.meant top r)

pub returns-in-ExistsFunc-clause-meant : goal.returns-in-ExistsFunc-clause-meant
returns-in-ExistsFunc-clause-meant c = λ top r.
    let view = exists_is c.args.e.now c.in-ExistsFunc.field-0 c.in-ExistsFunc.is in
    grind (
      arith,
      view,
      predicate_by_cases c.args.context.now.mode (math.exists (steps_of (steps_view c.in-ExistsFunc.field-0.items))) top,
      c.root_truth-in-ExistsFunc.ensures.meant top r,
    )
