-- The paths that the grammar makes.
use Rattle.jsonb.proofs.Common.{◌≡◌, ◌<◌, ◌^◌, List, [], ◌∷◌, length, Bool, true, false, Option, Some, None, ◌⊎◌, ⊤, ℤ, nat_lt, MatchBool, AllByRecursion, is_within, IsName, Int64, UInt64, Decimal64, Decimal128, Place, from_front, from_last, Entry, single, slice, LevelEnd, level, last_level, Levels, Literal, number, string, raw, Step, root, current, dot_wildcard, recursive_dot_wildcard, bracket_wildcard, dot_field, colon_field, object_field, array_indices, filter, whole_expression, Steps, no_steps, step, Expression, paths, value, binary, unary, exists, steps_of, joins}

-- an index of 32 bits
abbrev pub IsIndex : ℤ → Type 0
IsIndex i = is_within (2 ^ 31) i ≡ true

abbrev pub IsPlace : Place → Type 0
IsPlace (from_front i) = IsIndex i
IsPlace (from_last i) = IsIndex i

abbrev pub IsEntry : Entry → Type 0
IsEntry (single place) = IsPlace place
IsEntry (slice (first, last)) = IsPlace first × IsPlace last

abbrev pub IsLevelEnd : Option LevelEnd → Type 0
IsLevelEnd None = ⊤
IsLevelEnd (Some (level n)) = nat_lt n (2 ^ 8) ≡ true
IsLevelEnd (Some last_level) = ⊤

abbrev pub AreLevels : Option Levels → Type 0
AreLevels None = ⊤
AreLevels (Some levels) = (nat_lt levels.start (2 ^ 8) ≡ true) × IsLevelEnd levels.end

abbrev pub IsLiteral : Literal → Type 0
IsLiteral (number (UInt64 n)) = nat_lt n (2 ^ 64) ≡ true
IsLiteral (number (Int64 z)) = is_within (2 ^ 63) z ≡ true
IsLiteral (number (Decimal64 d)) = ⊥
IsLiteral (number (Decimal128 d)) = ⊥
IsLiteral (string text) = IsName text
IsLiteral (raw document) = ⊥
IsLiteral _ = ⊤

-- a step that may be in an operand: no filter, and not a beginning
abbrev pub IsInner : Step → Type 0
IsInner dot_wildcard = ⊤
IsInner (recursive_dot_wildcard levels) = AreLevels levels
IsInner bracket_wildcard = ⊤
IsInner (dot_field name) = IsName name
IsInner (colon_field name) = IsName name
IsInner (object_field name) = IsName name
IsInner (array_indices entries) = (0 < length entries) × AllByRecursion IsEntry entries
IsInner _ = ⊥

abbrev pub AreInner : Steps → Type 0
AreInner no_steps = ⊤
AreInner (step s ss) = IsInner s × AreInner ss

-- where an operand begins; `@` only in a filter
abbrev pub IsBeginning : Bool → Step → Type 0
IsBeginning is_in_filter root = ⊤
IsBeginning is_in_filter current = is_in_filter ≡ true
IsBeginning is_in_filter _ = ⊥

abbrev pub IsOperand : Bool → Expression → Type 0
IsOperand is_in_filter (paths (step s ss)) = IsBeginning is_in_filter s × AreInner ss
IsOperand is_in_filter (value l) = IsLiteral l
IsOperand is_in_filter _ = ⊥

abbrev pub is_signed_literal : Literal → Bool
is_signed_literal (number (Int64 z)) = true
is_signed_literal _ = false

-- whether a sign may be at the front; such an operand is not a left side
abbrev pub is_signed : Expression → Bool
is_signed (value l) = is_signed_literal l
is_signed _ = false

abbrev mutual
  -- a step after the first one
  pub IsPathStep : Step → Type 0
  IsPathStep (filter e) = IsCondition true e
  IsPathStep s = IsInner s

  pub ArePathSteps : Steps → Type 0
  ArePathSteps no_steps = ⊤
  ArePathSteps (step s ss) = IsPathStep s × ArePathSteps ss

  -- the steps of `exists`
  pub IsExistsPath : Steps → Type 0
  IsExistsPath no_steps = ⊥
  IsExistsPath (step s ss) = IsBeginning true s × ArePathSteps ss

  -- what an expression of the grammar is: operands are only in comparisons, in arithmetic and after a sign
  pub IsCondition : Bool → Expression → Type 0
  IsCondition is_in_filter (paths steps) = ⊥
  IsCondition is_in_filter (value l) = ⊥
  IsCondition is_in_filter (binary op left right) =
      MatchBool (joins op) (IsCondition is_in_filter left × IsCondition is_in_filter right)
      ((is_signed left ≡ false) × IsOperand is_in_filter left × IsOperand is_in_filter right)
  IsCondition is_in_filter (unary op operand) = IsOperand is_in_filter operand
  IsCondition is_in_filter (exists steps) = IsExistsPath steps

-- a whole path
abbrev pub IsPath : List Step → Type 0
IsPath p = ((e : Expression) × (p ≡ whole_expression e ∷ []) × IsCondition false e) ⊎
    (((ss : List Step) × (p ≡ root ∷ ss) × ArePathSteps (steps_of ss)) ⊎ ArePathSteps (steps_of p))
