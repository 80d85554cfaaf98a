-- What is open while an expression is parsed, and what the rules make of it once its content is parsed.
--
-- A frame is an expression of which a part is parsed, and what holds its next condition: `(`, or `?(` with the steps
-- before it. The innermost frame is last. An invariant of the parser: what the frames make of what the innermost
-- expression makes of the current atom is what the rule makes of the whole. An atom that fails fails all that is
-- open, since a list that may have ended there is followed by `&&`, `||` or `?`, and not by `)`.
use Rattle.std.specs.Prelude.{◌≡◌, ℕ, ◌+◌, ◌++◌, Bool, true, false, List, [], ◌∷◌, length, fold, Option, Some, None, option_and_then, IfSome}
use Rattle.jsonb_keypath.specs.Rules.{Parsed, Rule, give, ◌>>=◌, ◌>>◌, parsed_map, literal, repeat}
use Rattle.jsonb_keypath.specs.Tokens.{ws}
use Rattle.jsonb.specs.PathTree.{BinaryOp, and_op, or_op, Step, filter, Expression, binary, exists, steps_of, whole_expression}
use Rattle.jsonb.specs.PathGrammar.{spaced, spaced_operand, operator, path_with, atom_with, expression, path_step, plain_path, root_expression}
use Rattle.jsonb.specs.Private.Repeated.{another_atom, another_and}
use Rattle.jsonb.specs.PathViews.{steps_view, expression_view}
use Rattle.jsonb.specs.declared.parser.condition.Joined.{Joined}
use Rattle.jsonb.specs.declared.parser.condition.PartialExpr.{PartialExpr}
use Rattle.jsonb.specs.declared.parser.condition.AfterCondition.{AfterCondition}
use Rattle.jsonb.specs.declared.parser.condition.AfterCondition.TheVariants as after_condition
use Rattle.jsonb.specs.declared.parser.opening.Opened.{Opened}
use Rattle.jsonb.specs.declared.parser.opening.Opened.TheVariants as opened
use Rattle.jsonb.specs.declared.parser.opening.Opening.{Opening}
use Rattle.jsonb.specs.declared.parser.opening.Opening.TheVariants as opening
use Rattle.jsonb.specs.declared.parser.expression.Frame.{Frame}
use Rattle.jsonb.specs.declared.parser.PathStart.{PathStart}
use Rattle.jsonb.specs.declared.parser.PathStart.TheVariants as front

-- an operator, and the operand after it
unfoldable pub operation : Bool → Rule (BinaryOp × Expression)
operation is_in_filter = do
  op ← operator
  right ← spaced_operand is_in_filter
  give (op, right)

-- ---- conditions

-- the first member with those that still follow, joined from the left
abbrev pub joined_from : BinaryOp → Rule Expression → Parsed Expression → Parsed Expression
joined_from op another first = option_and_then (λ (p : Expression × List ℕ).
    parsed_map (λ others. fold (λ left right. binary op left right) p.0 others) (repeat another p.1)) first

-- the members so far and the next one
abbrev pub joined_view : BinaryOp → Option Joined → Expression → Expression
joined_view op None e = e
joined_view op (Some j) e = binary op (expression_view j.left.value) e

-- the members so far, the next one and those that still follow; if the next one fails, the list ends before its
-- separator
abbrev pub joined_behind : BinaryOp → Rule Expression → Option Joined → Parsed Expression → Parsed Expression
joined_behind op another j (Some p) = joined_from op another (Some (joined_view op j p.0, p.1))
joined_behind op another None None = None
joined_behind op another (Some j) None = Some (expression_view j.left.value, j.before.now)

-- the whole of an expression, of what is read as its next condition
unfoldable pub partial_outcome : PartialExpr → Parsed Expression → Parsed Expression
partial_outcome l next = joined_behind or_op (another_and expression l.is_in_filter) l.any
    (joined_behind and_op (another_atom expression l.is_in_filter) l.all next)

unfoldable pub after_condition_outcome : AfterCondition → Parsed Expression
after_condition_outcome (after_condition.Next partial after) = partial_outcome partial
    (atom_with expression partial.is_in_filter after.now)
after_condition_outcome (after_condition.Whole e rest) = Some (expression_view e, rest.now)

abbrev pub after_condition_rest : AfterCondition → List ℕ
after_condition_rest (after_condition.Next partial after) = after.now
after_condition_rest (after_condition.Whole e rest) = rest.now

-- where a list may have ended no parenthesis is closed
abbrev pub IsUnclosed : List ℕ → Type 0
IsUnclosed input = spaced (literal ")") input ≡ None

abbrev pub IsPartial : PartialExpr → Type 0
IsPartial l = IfSome l.all (λ j. IsUnclosed j.before.now × (spaced (literal "||") j.before.now ≡ None)) ×
    IfSome l.any (λ j. IsUnclosed j.before.now)

-- an expression that goes on was left well
abbrev pub IsAfterCondition : AfterCondition → Type 0
IsAfterCondition (after_condition.Next partial after) = IsPartial partial
IsAfterCondition (after_condition.Whole e rest) = Unit {0}

-- ---- what is open

-- the front of a filter
unfoldable pub filter_front : Rule (Unit {0})
filter_front = do
  ws
  literal "?"
  ws
  literal "("
  ws

-- an expression, and the end of its parentheses
abbrev pub closed : Parsed Expression → Parsed Expression
closed inside = option_and_then (λ (p : Expression × List ℕ). (do
  ws
  literal ")"
  give p.0) p.1) inside

-- a step of such a filter
abbrev pub filter_step : Parsed Expression → Parsed Step
filter_step inside = option_and_then (λ (p : Expression × List ℕ). (do
  ws
  give (filter p.0)) p.1) (closed inside)

-- `exists` of the steps that are read, and the end of its parentheses
abbrev pub exists_closed : Parsed (List Step) → Parsed Expression
exists_closed steps = option_and_then (λ (p : List Step × List ℕ). (do
  ws
  literal ")"
  give (exists (steps_of p.0))) p.1) steps

-- the steps so far, the next one and those that still follow; if the next one fails, the steps end before it
abbrev pub steps_behind : List Step → List ℕ → Parsed Step → Parsed (List Step)
steps_behind steps before None = Some (steps, before)
steps_behind steps before (Some p) =
    parsed_map (λ others. (steps ++ p.0 ∷ []) ++ others) (repeat (path_with expression) p.1)

-- the atom, of the expression inside
unfoldable pub opened_outcome : Opened → Parsed Expression → Parsed Expression
opened_outcome opened.Group inside = closed inside
opened_outcome (opened.Filter steps before) inside =
    exists_closed (steps_behind (steps_view steps.items) before.now (filter_step inside))

-- whether the content is part of a filter
abbrev pub goes_in_filter : Opened → Bool → Bool
goes_in_filter opened.Group outer = outer
goes_in_filter (opened.Filter steps before) outer = true

abbrev pub IsOpened : Opened → Type 0
IsOpened opened.Group = Unit {0}
IsOpened (opened.Filter steps before) = IsUnclosed before.now

unfoldable pub opening_outcome : Bool → Opening → Parsed Expression
opening_outcome f opening.Nothing = None
opening_outcome f (opening.Atom e rest) = Some (expression_view e, rest.now)
opening_outcome f (opening.Inside o inside) = opened_outcome o (expression (goes_in_filter o f) inside.now)

-- the length of the remaining input, if something is read
abbrev pub opening_size : Opening → ℕ
opening_size opening.Nothing = 0
opening_size (opening.Atom e rest) = length rest.now + 1
opening_size (opening.Inside o inside) = length inside.now + 1

abbrev pub IsOpening : Opening → Type 0
IsOpening opening.Nothing = Unit {0}
IsOpening (opening.Atom e rest) = Unit {0}
IsOpening (opening.Inside o inside) = IsOpened o

-- the whole expression, from the content of all that is open, the outermost first
unfoldable pub resumed : List Frame → Parsed Expression → Parsed Expression
resumed [] inside = inside
resumed (frame ∷ frames) inside = partial_outcome frame.partial (opened_outcome frame.opened (resumed frames inside))

abbrev pub AreFrames : List Frame → Type 0
AreFrames [] = Unit {0}
AreFrames (frame ∷ frames) = IsPartial frame.partial × IsOpened frame.opened × AreFrames frames

-- ---- the front of a path

-- an expression as a path
abbrev pub as_path : Parsed Expression → Parsed (List Step)
as_path whole = option_and_then (λ (p : Expression × List ℕ). (do
  ws
  give (whole_expression p.0 ∷ [])) p.1) whole

-- the text is an expression with this beginning, or not an expression but these steps and those after them
abbrev pub IsFront : List ℕ → PathStart → Type 0
IsFront input (front.Atom first) = IsOpening first × (as_path (partial_outcome
    (record { is_in_filter = false; all = None; any = None }) (opening_outcome false first)) ≡ root_expression input)
IsFront input (front.Steps steps rest) = (root_expression input ≡ None) ×
    (parsed_map (λ others. steps_view steps.items ++ others) (repeat path_step rest.now) ≡ plain_path input)
