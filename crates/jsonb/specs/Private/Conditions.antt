-- Conditions that are not joined.
use Rattle.std.specs.Prelude.{Bool, true, false}
use Rattle.jsonb.specs.PathTree.{BinaryOp, and_op, or_op, add, subtract, multiply, divide, modulo, Expression, binary}

abbrev pub is_comparison : BinaryOp → Bool
is_comparison and_op = false
is_comparison or_op = false
is_comparison add = false
is_comparison subtract = false
is_comparison multiply = false
is_comparison divide = false
is_comparison modulo = false
is_comparison op = true

-- neither `&&` and `||`, nor arithmetic
abbrev pub is_condition : Expression → Bool
is_condition (binary op l r) = is_comparison op
is_condition e = true
