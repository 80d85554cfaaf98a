-- The test of whether two paths have the same nodes, and the order of two literals of the code.
use Rattle.std.specs.Prelude.{Bool, true, false, ◌&&◌, nat_eq, Option, Some, None}
use Rattle.std.specs.declared.cmp.Ordering.{Ordering}
use Rattle.std.specs.declared.cmp.Ordering.TheVariants.{Equal}
use Rattle.std.specs.Cmp.Lexicographic.{pointwise, slice_cmp}
use Rattle.std.specs.Cow.{cow_str_bytes}
use Rattle.std.specs.Option.{option_eq}
use Rattle.std.specs.Ordering.{int_eq, is_eq, is_some_and, bool_cmp, nat_cmp}
use Rattle.jsonb_doc.specs.Number.{number_cmp}
use Rattle.jsonb_doc.specs.View.{number_parts}
use Rattle.jsonb.specs.declared.path.PathValue.{PathValue}
use Rattle.jsonb.specs.declared.path.PathValue.TheVariants.{Null, Boolean, String}
use Rattle.jsonb.specs.declared.path.PathValue.TheVariants as PathValue'
use Rattle.jsonb.specs.PathEquality.{literal_order, SameLiteral, SameStepBut, SameExpressionBut}
use Rattle.jsonb.specs.PathText.{operator_text, sign_text}
use Rattle.jsonb.specs.PathTree.{Place, from_front, from_last, Entry, single, slice, LevelEnd, level, last_level, Levels, Literal, BinaryOp, UnaryOp, Step, root, current, dot_wildcard, recursive_dot_wildcard, bracket_wildcard, dot_field, colon_field, object_field, array_indices, filter, whole_expression, Steps, no_steps, step, Expression, paths, value, binary, unary, exists}

abbrev pub is_same_place : Place → Place → Bool
is_same_place (from_front i) (from_front j) = int_eq i j
is_same_place (from_last i) (from_last j) = int_eq i j
is_same_place _ _ = false

abbrev pub is_same_entry : Entry → Entry → Bool
is_same_entry (single p) (single q) = is_same_place p q
is_same_entry (slice (p, q)) (slice (r, s)) = is_same_place p r && is_same_place q s
is_same_entry _ _ = false

abbrev pub is_same_end : LevelEnd → LevelEnd → Bool
is_same_end (level m) (level n) = nat_eq m n
is_same_end last_level last_level = true
is_same_end _ _ = false

abbrev pub is_same_level : Levels → Levels → Bool
is_same_level k l = nat_eq k.start l.start && option_eq is_same_end k.end l.end

-- Operators and signs compare by their text.
abbrev pub is_same_operator : BinaryOp → BinaryOp → Bool
is_same_operator a b = pointwise nat_eq (operator_text a) (operator_text b)

abbrev pub is_same_sign : UnaryOp → UnaryOp → Bool
is_same_sign a b = pointwise nat_eq (sign_text a) (sign_text b)

abbrev pub is_same_literal : Literal → Literal → Bool
is_same_literal l m = is_some_and is_eq (literal_order l m)

-- The order of two literals of the code.
abbrev pub path_value_order : PathValue → PathValue → Option Ordering
path_value_order Null Null = Some Equal
path_value_order (Boolean b) (Boolean c) = Some (bool_cmp b c)
path_value_order (PathValue'.Number m) (PathValue'.Number n) = Some (number_cmp (number_parts m) (number_parts n))
path_value_order (String s) (String t) = Some (slice_cmp nat_cmp (cow_str_bytes s) (cow_str_bytes t))
path_value_order _ _ = None

abbrev pub SameStep : Step → Step → Type 0
SameStep s t = SameStepBut SameLiteral s t

abbrev pub SameExpression : Expression → Expression → Type 0
SameExpression e f = SameExpressionBut SameLiteral e f

abbrev mutual
  pub is_same_step : Step → Step → Bool
  is_same_step root root = true
  is_same_step current current = true
  is_same_step dot_wildcard dot_wildcard = true
  is_same_step (recursive_dot_wildcard k) (recursive_dot_wildcard l) = option_eq is_same_level k l
  is_same_step bracket_wildcard bracket_wildcard = true
  is_same_step (dot_field n) (dot_field o) = pointwise nat_eq n o
  is_same_step (colon_field n) (colon_field o) = pointwise nat_eq n o
  is_same_step (object_field n) (object_field o) = pointwise nat_eq n o
  is_same_step (array_indices es) (array_indices fs) = pointwise is_same_entry es fs
  is_same_step (filter e) (filter f) = is_same_expression e f
  is_same_step (whole_expression e) (whole_expression f) = is_same_expression e f
  is_same_step _ _ = false

  pub are_same_steps : Steps → Steps → Bool
  are_same_steps no_steps no_steps = true
  are_same_steps (step s ss) (step t ts) = is_same_step s t && are_same_steps ss ts
  are_same_steps _ _ = false

  -- The left sides are compared last, since they may be long chains.
  pub is_same_expression : Expression → Expression → Bool
  is_same_expression (paths ss) (paths ts) = are_same_steps ss ts
  is_same_expression (value l) (value m) = is_same_literal l m
  is_same_expression (binary op left right) (binary op' left' right') =
      is_same_operator op op' && is_same_expression right right' && is_same_expression left left'
  is_same_expression (unary op e) (unary op' f) = is_same_sign op op' && is_same_expression e f
  is_same_expression (exists ss) (exists ts) = are_same_steps ss ts
  is_same_expression _ _ = false
