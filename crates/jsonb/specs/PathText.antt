-- The text of a JSON path, which parses back.
use Rattle.std.specs.Prelude.{ℕ, zero, suc, ◌==◌, List, [], ◌++◌, ℤ, pos, negsuc, Bool, true, false, Option, Some, None, codes, flat_map, if◌then◌else◌}
use Rattle.std.specs.Fmt.{decimal, signed_decimal}
use Rattle.std.specs.List.{join_by}
use Rattle.hex.specs.Hex.{encode_lower}
use Rattle.jsonb_keypath.specs.KeyPathText.{quoted_text, name_text}
use Rattle.jsonb_doc.specs.NumberText.{number_text}
use Rattle.jsonb_doc.specs.View.{number_parts}
use Rattle.jsonb.specs.PathTree.{Place, from_front, from_last, Entry, single, slice, LevelEnd, level, last_level, Levels, Literal, null, boolean, number, string, raw, BinaryOp, and_op, or_op, eq, not_eq, lt, lte, gt, gte, starts_with_op, add, subtract, multiply, divide, modulo, UnaryOp, plus, minus, Step, root, current, dot_wildcard, recursive_dot_wildcard, bracket_wildcard, dot_field, colon_field, object_field, array_indices, filter, whole_expression, Steps, no_steps, step, Expression, paths, value, binary, unary, exists}

-- Nothing for 0, otherwise the number with its sign. The least 32-bit number cannot follow a minus.
abbrev pub offset_text : ℤ → List ℕ
offset_text (pos zero) = []
offset_text (pos (suc n)) = codes "+" ++ decimal (suc n)
offset_text (negsuc n) = if n == 2147483647 then codes "+" ++ signed_decimal (negsuc n) else signed_decimal (negsuc n)

abbrev pub place_text : Place → List ℕ
place_text (from_front i) = signed_decimal i
place_text (from_last offset) = codes "last" ++ offset_text offset

abbrev pub entry_text : Entry → List ℕ
entry_text (single place) = place_text place
entry_text (slice (first, last)) = place_text first ++ codes " to " ++ place_text last

abbrev pub level_end_text : Option LevelEnd → List ℕ
level_end_text None = []
level_end_text (Some (level n)) = codes " to " ++ decimal n
level_end_text (Some last_level) = codes " to last"

abbrev pub level_text : Levels → List ℕ
level_text levels = decimal levels.start ++ level_end_text levels.end

-- A level between braces, if there is one.
abbrev pub levels_text : Option Levels → List ℕ
levels_text None = []
levels_text (Some levels) = codes "{" ++ decimal levels.start ++ level_end_text levels.end ++ codes "}"

abbrev pub operator_text : BinaryOp → List ℕ
operator_text and_op = codes "&&"
operator_text or_op = codes "||"
operator_text eq = codes "=="
operator_text not_eq = codes "!="
operator_text lt = codes "<"
operator_text lte = codes "<="
operator_text gt = codes ">"
operator_text gte = codes ">="
operator_text starts_with_op = codes "starts with"
operator_text add = codes "+"
operator_text subtract = codes "-"
operator_text multiply = codes "*"
operator_text divide = codes "/"
operator_text modulo = codes "%"

abbrev pub sign_text : UnaryOp → List ℕ
sign_text plus = codes "+"
sign_text minus = codes "-"

abbrev pub literal_text : Literal → List ℕ
literal_text null = codes "null"
literal_text (boolean b) = if b then codes "true" else codes "false"
literal_text (number n) = number_text (number_parts n)
literal_text (string text) = quoted_text text
literal_text (raw document) = codes "raw(" ++ encode_lower document ++ codes ")"

-- Whether the operator joins conditions.
abbrev pub joins : BinaryOp → Bool
joins and_op = true
joins or_op = true
joins _ = false

abbrev pub needs_parentheses : Expression → Bool
needs_parentheses (binary op left right) = joins op
needs_parentheses _ = false

-- The text of a side of a binary expression: joined conditions are in parentheses.
abbrev pub side_text : Expression → List ℕ → List ℕ
side_text e text = if needs_parentheses e then codes "(" ++ text ++ codes ")" else text

abbrev mutual
  pub step_text : Step → List ℕ
  step_text root = codes "$"
  step_text current = codes "@"
  step_text dot_wildcard = codes ".*"
  step_text (recursive_dot_wildcard levels) = codes ".**" ++ levels_text levels
  step_text bracket_wildcard = codes "[*]"
  step_text (dot_field name) = codes "." ++ name_text name
  step_text (colon_field name) = codes ":" ++ name_text name
  step_text (object_field name) = codes "[" ++ quoted_text name ++ codes "]"
  step_text (array_indices entries) = codes "[" ++ join_by entry_text (codes ", ") entries ++ codes "]"
  step_text (filter e) = codes "?(" ++ expression_text e ++ codes ")"
  step_text (whole_expression e) = expression_text e

  pub steps_text : Steps → List ℕ
  steps_text no_steps = []
  steps_text (step s ss) = step_text s ++ steps_text ss

  pub expression_text : Expression → List ℕ
  expression_text (paths steps) = steps_text steps
  expression_text (value l) = literal_text l
  expression_text (binary op left right) =
      side_text left (expression_text left) ++ codes " " ++ operator_text op ++ codes " "
      ++ side_text right (expression_text right)
  expression_text (unary op operand) = sign_text op ++ expression_text operand
  expression_text (exists steps) = codes "exists(" ++ steps_text steps ++ codes ")"

-- The steps of a whole path.
abbrev pub path_text : List Step → List ℕ
path_text steps = flat_map step_text steps
