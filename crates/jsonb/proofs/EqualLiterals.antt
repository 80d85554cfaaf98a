-- The order of two literals of the code is that of what they stand for.
use Rattle.jsonb.proofs.Common.{◌≡◌, refl, ap, is_eq, is_some_and, number_cmp-number_view, literal_order, literal_view, path_value_order, is_same_literal, PathValue, Null, Raw}
use Rattle.jsonb.specs.declared.path.PathValue.TheVariants as PathValue'

pub order_is : (a b : PathValue) → path_value_order a b ≡ literal_order (literal_view a) (literal_view b)
order_is (PathValue'.Number m) (PathValue'.Number n) = rw (number_cmp-number_view m n) refl
order_is (Raw d) (PathValue'.Number n) = refl
order_is (PathValue'.Number m) b = refl
order_is a (PathValue'.Number n) = refl
order_is Null Null = refl
order_is (Raw d) Null = refl
order_is (Raw d) b = refl
order_is a b = refl

pub literal-is : (a b : PathValue) → is_some_and is_eq (path_value_order a b) ≡ is_same_literal (literal_view a) (literal_view b)
literal-is a b = ap (is_some_and is_eq) (order_is a b)
