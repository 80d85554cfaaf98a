use Rattle.jsonb.proofs.Lemmas.{sym, ◌∙◌, expression_view, arith, binary_is, if_none}
use Rattle.jsonb.specs.PathTree as math
use Rattle.jsonb.proofs.selector.compile.plain_question.Goals as goal

pub returns-then-is_comparison : goal.returns-then-is_comparison
returns-then-is_comparison c = λ alone.
    let view = binary_is c.args.e.now c.in-BinaryOp.op c.in-BinaryOp.left c.in-BinaryOp.right c.in-BinaryOp.is
    ∙ (λ i. math.binary c.in-BinaryOp.op (expression_view (sym c.deref.ensures i)) (expression_view (sym c.deref-then-is_comparison.ensures i))) in
    let compares = sym c.is_comparison.ensures ∙ c.if-is_comparison.true in
    grind (arith, if_none, c.comparison_of.ensures)
