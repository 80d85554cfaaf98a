-- Expressions that `&&` or `||` joins.
use Rattle.std.specs.Prelude.{◌≡◌, ◌<◌, Bool, false, Option, Some, None, is_some}
use Rattle.jsonb.specs.PathTree.{BinaryOp, and_op, or_op, Expression, binary}
use Rattle.jsonb.specs.PathViews.{expression_view}
use Rattle.jsonb.specs.declared.path.Expr.{Expr, size-Expr}
use Rattle.jsonb.specs.declared.selector.pair.Join.{Join}
use Rattle.jsonb.specs.declared.selector.pair.Join.TheVariants.{And, Or}
use Rattle.jsonb.specs.declared.selector.pair.Pair.{Pair}

abbrev pub join_of : BinaryOp → Option Join
join_of and_op = Some And
join_of or_op = Some Or
join_of op = None

abbrev pub joining_op : Join → BinaryOp
joining_op And = and_op
joining_op Or = or_op

abbrev pub is_joined : Expression → Bool
is_joined (binary op l r) = is_some (join_of op)
is_joined e = false

abbrev pub IsPairOf : Expr → Pair → Type 0
IsPairOf e p =
    (expression_view e ≡ binary (joining_op p.join) (expression_view p.left.now) (expression_view p.right.now))
    × (size-Expr p.left.now < size-Expr e) × (size-Expr p.right.now < size-Expr e)
