-- The last expression of an expression: the right side of a pair, the operand of a sign, or that of the last step.
-- And what precedes and closes it.
use Rattle.std.specs.Prelude.{ℕ, List, [], ◌++◌, Bool, true, false, ◌&&◌, ◌||◌, Option, Some, None, codes, if◌then◌else◌}
use Rattle.jsonb.specs.PathText.{operator_text, sign_text, literal_text, step_text, steps_text, expression_text}
use Rattle.jsonb.specs.PathTree.{Step, filter, whole_expression, Steps, no_steps, step, Expression, paths, value, binary, unary, exists}
use Rattle.jsonb.specs.Private.SamePath.{is_same_operator, is_same_sign, is_same_literal, is_same_step, are_same_steps, is_same_expression}
use Rattle.jsonb.specs.Private.ChainText.{parenthesis}

-- ---- lists of steps

abbrev pub but_last : Steps → Steps
but_last no_steps = no_steps
but_last (step s no_steps) = no_steps
but_last (step s (step t ts)) = step s (but_last (step t ts))

abbrev pub last_step : Steps → Option Step
last_step no_steps = None
last_step (step s no_steps) = Some s
last_step (step s (step t ts)) = last_step (step t ts)

abbrev pub is_filter : Step → Bool
is_filter (filter e) = true
is_filter _ = false

-- the expression that a step holds
abbrev pub held_by : Step → Option Expression
held_by (filter e) = Some e
held_by (whole_expression e) = Some e
held_by _ = None

abbrev pub held_by_last : Option Step → Option Expression
held_by_last None = None
held_by_last (Some s) = held_by s

-- ---- expressions

abbrev pub last_of : Expression → Option Expression
last_of (paths ss) = held_by_last (last_step ss)
last_of (value l) = None
last_of (binary op left right) = Some right
last_of (unary op e) = Some e
last_of (exists ss) = held_by_last (last_step ss)

-- the result for an expression, then for its last expression, and so on
abbrev mutual
  pub down : (Expression → List ℕ) → Expression → List ℕ
  down text (paths ss) = text (paths ss) ++ steps_down text ss
  down text (value l) = text (value l)
  down text (binary op left right) = text (binary op left right) ++ down text right
  down text (unary op e) = text (unary op e) ++ down text e
  down text (exists ss) = text (exists ss) ++ steps_down text ss

  pub steps_down : (Expression → List ℕ) → Steps → List ℕ
  steps_down text no_steps = []
  steps_down text (step s no_steps) = step_down text s
  steps_down text (step s (step t ts)) = steps_down text (step t ts)

  pub step_down : (Expression → List ℕ) → Step → List ℕ
  step_down text (filter e) = down text e
  step_down text (whole_expression e) = down text e
  step_down text _ = []

-- ---- the text before the last expression, and the parentheses after it

abbrev pub step_before : Step → List ℕ
step_before (filter e) = codes "?("
step_before (whole_expression e) = []
step_before s = step_text s

abbrev pub last_before : Option Step → List ℕ
last_before None = []
last_before (Some s) = step_before s

abbrev pub steps_before : Steps → List ℕ
steps_before ss = steps_text (but_last ss) ++ last_before (last_step ss)

-- what is between the sides of a pair, and the parenthesis of the left one
abbrev pub between_text : Expression → List ℕ
between_text (binary op left right) = parenthesis left (codes ")") ++ codes " " ++ operator_text op ++ codes " "
between_text _ = []

abbrev pub text_before : Expression → List ℕ
text_before (paths ss) = steps_before ss
text_before (value l) = literal_text l
text_before (binary op left right) =
    parenthesis left (codes "(") ++ expression_text left ++ between_text (binary op left right)
    ++ parenthesis right (codes "(")
text_before (unary op e) = sign_text op
text_before (exists ss) = codes "exists(" ++ steps_before ss

abbrev pub ends_in_filter : Option Step → Bool
ends_in_filter None = false
ends_in_filter (Some s) = is_filter s

abbrev pub closing : Expression → List ℕ
closing (paths ss) = if ends_in_filter (last_step ss) then codes ")" else []
closing (value l) = []
closing (binary op left right) = parenthesis right (codes ")")
closing (unary op e) = []
closing (exists ss) = if ends_in_filter (last_step ss) then codes "))" else codes ")"

-- ---- whether two are the same except for their last expressions

-- whether the step is an expression
abbrev pub is_expression : Step → Bool
is_expression (whole_expression e) = true
is_expression _ = false

abbrev pub is_same_opening : Step → Step → Bool
is_same_opening s t = (is_filter s && is_filter t) || (is_expression s && is_expression t) || is_same_step s t

abbrev pub is_same_last : Option Step → Option Step → Bool
is_same_last None None = true
is_same_last (Some s) (Some t) = is_same_opening s t
is_same_last _ _ = false

abbrev pub are_same_before : Steps → Steps → Bool
are_same_before ss ts = are_same_steps (but_last ss) (but_last ts) && is_same_last (last_step ss) (last_step ts)

abbrev pub is_same_before : Expression → Expression → Bool
is_same_before (paths ss) (paths ts) = are_same_before ss ts
is_same_before (value l) (value m) = is_same_literal l m
is_same_before (binary op left right) (binary op' left' right') =
    is_same_operator op op' && is_same_expression left left'
is_same_before (unary op e) (unary op' f) = is_same_sign op op'
is_same_before (exists ss) (exists ts) = are_same_before ss ts
is_same_before _ _ = false
