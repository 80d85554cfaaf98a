-- The syntax of JSON paths, and their trees.
use Rattle.std.specs.Prelude.{ℕ, zero, suc, ◌^◌, ◌+◌, ◌++◌, Bool, true, false, List, [], ◌∷◌, length, take, drop, Option, Some, None, ℤ, pos, neg_ℤ, fold, codes, if◌then◌else◌}
use Rattle.std.specs.Str.{str_eq_ignore_ascii_case}
use Prim.Native.String.{String}
use Rattle.jsonb_keypath.specs.Rules.{Rule, give, ◌>>=◌, ◌>>◌, ◌</>◌, optional, only_if, bytes, literal, repeat, list_of, all_consuming}
use Rattle.jsonb_keypath.specs.Tokens.{ws, natural_below, nat8, integer_within, int32, is_within, name, quoted}
use Rattle.jsonb_doc.specs.declared.number.Number.TheVariants.{Int64, UInt64}
use Rattle.jsonb.specs.PathText.{operator_text}
use Rattle.jsonb.specs.PathTree.{Place, from_front, from_last, Entry, single, slice, level, last_level, LevelEnd, Levels, Literal, null, boolean, number, string, BinaryOp, and_op, or_op, eq, not_eq, lt, lte, gt, gte, starts_with_op, add, subtract, multiply, divide, modulo, UnaryOp, plus, minus, Step, root, current, dot_wildcard, recursive_dot_wildcard, bracket_wildcard, dot_field, colon_field, object_field, array_indices, filter, whole_expression, Expression, paths, value, binary, unary, exists, steps_of}

-- The rule, with its value mapped.
infixr 9 ◌<$>◌
abbrev pub ◌<$>◌ : {A B : Type 0} → (A → B) → Rule A → Rule B
f <$> rule = rule >>= λ a. give (f a)

-- The letters of the text, each in any case.
abbrev pub keyword : String → Rule (Unit {0})
keyword text input =
    if str_eq_ignore_ascii_case (take (length (codes text)) input) (codes text)
    then Some (tt, drop (length (codes text)) input) else None

-- White space around the rule.
abbrev pub spaced : {A : Type 0} → Rule A → Rule A
spaced rule = do ws; a ← rule; ws; give a

-- ---- steps without expressions

-- The negated number; the least 32-bit one has no negation there, and becomes the greatest.
abbrev pub negated : ℤ → ℤ
negated z = if is_within (2 ^ 31) (neg_ℤ z) then neg_ℤ z else pos (2147483647)

-- `last`, this sign, and a number.
abbrev pub last_and : String → Rule ℤ
last_and sign = do keyword "last"; ws; literal sign; ws; int32

unfoldable pub place : Rule Place
place =
    from_front <$> int32 </> (λ i. from_last (negated i)) <$> last_and "-" </> from_last <$> last_and "+"
    </> (keyword "last" >> give (from_last (pos 0)))

unfoldable pub entry : Rule Entry
entry =
    (do first ← place; ws; keyword "to"; ws; last ← place; give (slice (first, last)))
    </> single <$> place

-- `to`, and the level at which the levels end.
abbrev pub level_end : Rule LevelEnd
level_end = do ws; keyword "to"; ws; level <$> nat8 </> (keyword "last" >> give last_level)

unfoldable pub levels : Rule Levels
levels = do literal "{"; ws; n ← nat8; end ← optional level_end; ws; literal "}"; give (record { start = n; end = end })

unfoldable pub field : Rule (List ℕ)
field = quoted </> name

unfoldable pub entries : Rule (List Entry)
entries = do literal "["; found ← list_of (spaced entry) (literal ","); literal "]"; give found

unfoldable pub wildcard : Rule Step
wildcard =
    (do literal ".**"; found ← optional levels; give (recursive_dot_wildcard found))
    </> (literal ".*" >> give dot_wildcard)
    </> (do literal "["; ws; literal "*"; ws; literal "]"; give bracket_wildcard)

unfoldable pub named_field : Rule Step
named_field = colon_field <$> (literal ":" >> field) </> dot_field <$> (literal "." >> field)

unfoldable pub bracket_field : Rule Step
bracket_field = do literal "["; ws; text ← quoted; ws; literal "]"; give (object_field text)

unfoldable pub inner : Rule Step
inner = wildcard </> named_field </> array_indices <$> entries </> bracket_field

unfoldable pub spaced_inner : Rule Step
spaced_inner = spaced inner

-- ---- operands

unfoldable pub path_root : Bool → Rule Step
path_root is_in_filter = (literal "$" >> give root) </> (only_if is_in_filter >> literal "@" >> give current)

unfoldable pub literal_value : Rule Literal
literal_value =
    (literal "null" >> give null) </> (literal "true" >> give (boolean true))
    </> (literal "false" >> give (boolean false)) </> (λ n. number (UInt64 n)) <$> natural_below (2 ^ 64)
    </> (λ z. number (Int64 z)) <$> integer_within (2 ^ 63) </> string <$> quoted

-- The root of a path, and the steps after it.
abbrev pub rooted : Bool → Rule Step → Rule (List Step)
rooted is_in_filter next = do first ← path_root is_in_filter; others ← repeat next; give (first ∷ others)

unfoldable pub operand : Bool → Rule Expression
operand is_in_filter = (λ ss. paths (steps_of ss)) <$> rooted is_in_filter spaced_inner </> value <$> literal_value

unfoldable pub spaced_operand : Bool → Rule Expression
spaced_operand is_in_filter = spaced (operand is_in_filter)

-- The operator, as it prints.
abbrev pub printed : BinaryOp → Rule BinaryOp
printed op = bytes (operator_text op) >> give op

unfoldable pub arithmetic_operator : Rule BinaryOp
arithmetic_operator = printed add </> printed subtract </> printed multiply </> printed divide </> printed modulo

unfoldable pub operator : Rule BinaryOp
operator =
    printed eq </> printed not_eq </> (literal "<>" >> give not_eq) </> printed lte </> printed lt
    </> printed gte </> printed gt </> printed starts_with_op </> arithmetic_operator

unfoldable pub unary_operator : Rule UnaryOp
unary_operator = (literal "+" >> give plus) </> (literal "-" >> give minus)

unfoldable pub unary_atom : Bool → Rule Expression
unary_atom is_in_filter = do op ← unary_operator; e ← spaced_operand is_in_filter; give (unary op e)

unfoldable pub binary_atom : Bool → Rule Expression
binary_atom is_in_filter =
    do l ← spaced_operand is_in_filter; op ← operator; r ← spaced_operand is_in_filter; give (binary op l r)

-- ---- expressions

-- The members from the left on, joined two by two.
abbrev pub joined_by : BinaryOp → List Expression → Expression
joined_by op [] = value null
joined_by op (first ∷ others) = fold (λ left right. binary op left right) first others

-- `nested` reads an expression inside parentheses, in a filter or not.
module _ (nested : Bool → Rule Expression) where
  -- `( .. )`.
  unfoldable pub group_with : Bool → Rule Expression
  group_with is_in_filter = do literal "("; ws; e ← nested is_in_filter; ws; literal ")"; give e

  -- A filter is `?( .. )`.
  unfoldable pub path_with : Rule Step
  path_with = spaced_inner </> spaced (filter <$> (do literal "?"; ws; group_with true))

  unfoldable pub exists_with : Rule Expression
  exists_with =
      do literal "exists"; ws; literal "("; ws; ss ← rooted true path_with; ws; literal ")"; give (exists (steps_of ss))

  unfoldable pub atom_with : Bool → Rule Expression
  atom_with is_in_filter =
      unary_atom is_in_filter </> binary_atom is_in_filter </> group_with is_in_filter </> exists_with

  unfoldable pub and_with : Bool → Rule Expression
  and_with is_in_filter = joined_by and_op <$> list_of (atom_with is_in_filter) (spaced (literal "&&"))

  unfoldable pub or_with : Bool → Rule Expression
  or_with is_in_filter = joined_by or_op <$> list_of (and_with is_in_filter) (spaced (literal "||"))

-- An expression with at most n nested parentheses. The length of the input is a sufficient bound.
unfoldable pub nested_or : ℕ → Bool → Rule Expression
nested_or zero is_in_filter = λ input. None
nested_or (suc n) is_in_filter = or_with (nested_or n) is_in_filter

unfoldable pub expression : Bool → Rule Expression
expression is_in_filter input = nested_or (length input + 1) is_in_filter input

-- ---- whole paths

unfoldable pub root_expression : Rule (List Step)
root_expression = (λ e. whole_expression e ∷ []) <$> spaced (expression false)

unfoldable pub first_step : Rule Step
first_step = (literal "$" >> give root) </> dot_field <$> spaced name

-- The first step, if there is one.
unfoldable pub front_steps : Rule (List Step)
front_steps = (λ s. s ∷ []) <$> first_step </> give []

-- One step of a path; a filter may contain any expression.
unfoldable pub path_step : Rule Step
path_step input = path_with (nested_or (length input + 1)) input

unfoldable pub plain_path : Rule (List Step)
plain_path = do front ← front_steps; others ← repeat path_step; give (front ++ others)

-- The steps of the path that the text is, if it is one.
unfoldable pub json_path : List ℕ → Option (List Step)
json_path text = all_consuming (spaced (root_expression </> plain_path) text)
