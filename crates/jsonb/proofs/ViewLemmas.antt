-- The views of expressions that the code builds.
use Rattle.jsonb.proofs.Common.{◌≡◌, ◌∙◌, sym, ap, Box, Global, Expression, Step, binary, unary, expression_view, expression_layer, step_layer, BinaryOperator, UnaryOperator, fold-roll-Expr, rolls-BinaryOp, rolls-UnaryOp, Expr-F}
use Rattle.jsonb.specs.declared.path.Expr.{Expr as CodeExpr}
use Rattle.jsonb.specs.declared.path.Expr.TheViews.{BinaryOp, UnaryOp}

pub view-binary : (op : BinaryOperator) (left right : Box CodeExpr Global) →
    expression_view (BinaryOp op left right) ≡ binary op (expression_view left.value) (expression_view right.value)
view-binary op left right = ap expression_view (sym (rolls-BinaryOp op left right))
    ∙ fold-roll-Expr Expression Step expression_layer step_layer (Expr-F.BinaryOp op left right)

pub view-unary : (op : UnaryOperator) (operand : Box CodeExpr Global) → expression_view (UnaryOp op operand) ≡ unary op (expression_view operand.value)
view-unary op operand = ap expression_view (sym (rolls-UnaryOp op operand))
    ∙ fold-roll-Expr Expression Step expression_layer step_layer (Expr-F.UnaryOp op operand)
