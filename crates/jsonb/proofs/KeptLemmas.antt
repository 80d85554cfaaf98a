-- Comparisons, and values that are known.
use Rattle.jsonb.proofs.Common.{◌≡◌, true, Ok, IsOkAnd, arith, sym, subst, Outcome, and_then, Refines, IsOutOfMemory, Tree, Expression, truth, operand_values, is_comparison, Mode, compare}
use Rattle.jsonb.specs.PathTree as math

pub comparison_is : (mode : Mode) (op : math.BinaryOp) (l r : Expression) (top u : Tree) → is_comparison op ≡ true → truth mode (math.binary op l r) top u
    ≡ and_then (operand_values mode l top u) (λ ls. and_then (operand_values mode r top u) (λ rs. Ok (compare op ls rs)))
comparison_is mode op l r top u h = grind arith

pub value_is : {A : Type 0} {x : A} {o : Outcome A} → IsOkAnd o (λ y. x ≡ y) → o ≡ Ok x
value_is h = grind arith

pub known : {A B : Type 0} {R : A → B → Type 0} {x : A} {y : B} {o : Outcome B} → o ≡ Ok y → R x y → Refines R IsOutOfMemory (Ok x) o
known {R = R} {x = x} is h = record { ok = subst (λ z. IsOkAnd z (R x)) (sym is) h; err = tt }
