-- Comparisons of values, and of lists of them.
use Rattle.std.specs.Prelude.{nat_eq, Bool, true, false, not, ◌||◌, List, [], ◌∷◌, map, flat_map, Option, Some, None, option_map, if◌then◌else◌}
use Rattle.std.specs.List.{starts_with}
use Rattle.std.specs.Option.{option_zip}
use Rattle.std.specs.Ordering.{nat_cmp, bool_cmp, is_eq, is_lt, is_gt}
use Rattle.std.specs.Cmp.Lexicographic.{slice_cmp}
use Rattle.std.specs.declared.cmp.Ordering.{Ordering}
use Rattle.std.specs.declared.cmp.Ordering.TheVariants.{Equal}
use Rattle.jsonb_doc.specs.Number.{number_cmp}
use Rattle.jsonb.specs.PathTree.{BinaryOp, eq, not_eq, lt, lte, gt, gte, starts_with_op}
use Rattle.jsonb.specs.Values.{Value, null, boolean, number, text, container}

-- True, false, or `None` for unknown.
abbrev pub Truth : Type 0
Truth = Option Bool

-- The order of two values of one type.
abbrev pub value_order : Value → Value → Option Ordering
value_order null null = Some Equal
value_order (boolean a) (boolean b) = Some (bool_cmp a b)
value_order (number m) (number n) = Some (number_cmp m n)
value_order (text a) (text b) = Some (slice_cmp nat_cmp a b)
value_order _ _ = None

-- Whether the operator holds for two values in this order.
abbrev pub holds_for : BinaryOp → Ordering → Bool
holds_for eq o = is_eq o
holds_for not_eq o = not (is_eq o)
holds_for lt o = is_lt o
holds_for lte o = not (is_gt o)
holds_for gt o = is_gt o
holds_for gte o = not (is_lt o)
holds_for _ o = false

-- The result for two values in this order. Values of two types have none: they are unequal, and any other comparison is
-- unknown.
abbrev pub truth_of_order : BinaryOp → Option Ordering → Truth
truth_of_order op (Some o) = Some (holds_for op o)
truth_of_order not_eq None = Some true
truth_of_order op None = None

abbrev pub is_container : Value → Bool
is_container container = true
is_container _ = false

-- The result of one pair: whether the right string begins the left one, or of a comparison. With a container it is
-- unknown.
abbrev pub pair_truth : BinaryOp → Value → Value → Truth
pair_truth starts_with_op (text a) (text b) = Some (starts_with nat_eq a b)
pair_truth starts_with_op _ _ = None
pair_truth op a b = if is_container a || is_container b then None else truth_of_order op (value_order a b)

-- The first result that is true or unknown, and false if there is none.
abbrev pub first_decisive : List Truth → Truth
first_decisive [] = Some false
first_decisive (Some false ∷ rest) = first_decisive rest
first_decisive (decisive ∷ rest) = decisive

-- The result of all pairs: for each left value all right values.
abbrev pub compare : BinaryOp → List Value → List Value → Truth
compare op ls rs = first_decisive (flat_map (λ l. map (λ r. pair_truth op l r) rs) ls)

-- The operator's result for two results, unknown if either is.
abbrev pub joined_truth : (Bool → Bool → Bool) → Truth → Truth → Truth
joined_truth op a b = option_map (λ both. op both.0 both.1) (option_zip a b)
