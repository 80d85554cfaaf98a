-- Equality of the small parts of paths is equality of what they stand for.
use Rattle.jsonb.proofs.Common.{◌≡◌, List, [], ◌∷◌, Bool, refl, ap₂, ◌&&◌, Decides, arith, pointwise, same_true, true_same, entry-same, end-same, level-same, is_same_entry, is_same_end, is_same_level, Index, ArrayIndex, RecursiveLevelEnd, RecursiveLevel, BinaryOperator, UnaryOperator}
use Rattle.jsonb.specs.contracts.path.IndexPartialEq.TheImpl.{eq-value as index_equal}
use Rattle.jsonb.specs.contracts.path.ArrayIndexPartialEq.TheImpl.{eq-value as array_index_equal}
use Rattle.jsonb.specs.contracts.path.RecursiveLevelEndPartialEq.TheImpl.{eq-value as level_end_equal}
use Rattle.jsonb.specs.contracts.path.RecursiveLevelPartialEq.TheImpl.{eq-value as level_equal}
use Rattle.jsonb.specs.contracts.path.BinaryOperator.{the_type as the_operator}
use Rattle.jsonb.specs.contracts.path.BinaryOperatorPartialEq.TheImpl.{eq-value as operator_equal}
use Rattle.jsonb.specs.contracts.path.UnaryOperatorPartialEq.TheImpl.{eq-value as sign_equal}

module _ {A : Type 0} (E F : A → A → Bool) (same : (a b : A) → E a b ≡ F a b) where
  list-is : (xs ys : List A) → pointwise E xs ys ≡ pointwise F xs ys
  list-is [] [] = refl
  list-is (x ∷ xs) (y ∷ ys) = ap₂ (λ a b. a && b) (same x y) (list-is xs ys)
  list-is _ _ = refl

-- ---- places, entries and levels

pub index-equal : (a b : Index) → Decides (index_equal.it a b) (a ≡ b)
index-equal a b = grind arith

array_index-is : (a b : ArrayIndex) → array_index_equal.it a b ≡ is_same_entry a b
array_index-is a b = grind arith

pub array_index-equal : (a b : ArrayIndex) → Decides (array_index_equal.it a b) (a ≡ b)
array_index-equal a b = grind (arith, array_index-is, entry-same)

pub entries-is : (es fs : List ArrayIndex) → pointwise array_index_equal.it es fs ≡ pointwise is_same_entry es fs
entries-is es fs = list-is array_index_equal.it is_same_entry array_index-is es fs

level_end-is : (a b : RecursiveLevelEnd) → level_end_equal.it a b ≡ is_same_end a b
level_end-is a b = grind arith

pub level_end-equal : (a b : RecursiveLevelEnd) → Decides (level_end_equal.it a b) (a ≡ b)
level_end-equal a b = rw (level_end-is a b) (end-same a b)

level-is : (a b : RecursiveLevel) → level_equal.it a b ≡ is_same_level a b
level-is a b = grind (arith, level_end-is)

pub level-equal : (a b : RecursiveLevel) → Decides (level_equal.it a b) (a ≡ b)
level-equal a b = rw (level-is a b) (level-same a b)

-- ---- operators

pub operator-equal : (a b : BinaryOperator) → Decides (operator_equal.it a b) (a ≡ b)
operator-equal a b = (λ h. same_true the_operator tt a b h, λ e. true_same the_operator a b e)

pub sign-equal : (a b : UnaryOperator) → Decides (sign_equal.it a b) (a ≡ b)
sign-equal a b = grind arith
