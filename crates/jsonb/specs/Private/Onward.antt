-- What the evaluation of an expression for some items leads to.
use Rattle.std.specs.Prelude.{if◌then◌else◌, ◌≡◌, ◌+◌, ◌&&◌, ◌||◌, ℕ, List, [], ◌∷◌, Option, Some, None, IfOk, flat_map, reverse, is_some, sum_by, Ok, ⊤}
use Rattle.std.specs.List.{AllZip, AllByRecursion}
use Rattle.std.specs.Borrow.{Bor}
use Rattle.jsonb_doc.specs.Answer.{Outcome, and_then, try_flat_map}
use Rattle.jsonb_doc.specs.Tree.{Tree}
use Rattle.jsonb_doc.specs.declared.spot.Spot.{Spot}
use Rattle.jsonb.specs.PathTree.{BinaryOp, Expression, Step, Steps, no_steps, step, filter, paths, value, binary, unary, exists, steps_of}
use Rattle.jsonb.specs.PathViews.{expression_view, steps_view, literal_view}
use Rattle.jsonb.specs.Compare.{Truth, compare, joined_truth}
use Rattle.jsonb.specs.Values.{Value, values_of_item, literal_value}
use Rattle.jsonb.specs.Meaning.{truth, operand_values, step_meaning, steps_meaning, first_item}
use Rattle.jsonb.specs.Private.Columns.{AreSound, AreTruths, AreLists, HasSome, flat, results}
use Rattle.jsonb.specs.Private.Selection.{IsAt, HasTree, is_relative, node_spots}
use Rattle.jsonb.specs.declared.path.Expr.{Expr}
use Rattle.jsonb.specs.declared.path.Path.{Path}
use Rattle.jsonb.specs.declared.selector.column.Column.{Column}
use Rattle.jsonb.specs.declared.selector.document.Context.{Context}
use Rattle.jsonb.specs.declared.selector.document.Mode.{Mode}
use Rattle.jsonb.specs.declared.selector.expressions.Evaluation.{Evaluation}
use Rattle.jsonb.specs.declared.selector.expressions.Frame.{Frame}
use Rattle.jsonb.specs.declared.selector.expressions.Frame.TheVariants as frame
use Rattle.jsonb.specs.declared.selector.expressions.Lefts.{Lefts}
use Rattle.jsonb.specs.declared.selector.expressions.Lefts.TheVariants as lefts
use Rattle.jsonb.specs.declared.selector.expressions.Operand.{Operand}
use Rattle.jsonb.specs.declared.selector.expressions.Operand.TheVariants as operand
use Rattle.jsonb.specs.declared.selector.expressions.Turn.{Turn}
use Rattle.jsonb.specs.declared.selector.expressions.Turn.TheVariants as turn
use Rattle.jsonb.specs.declared.selector.expressions.Waits.{Waits}
use Rattle.jsonb.specs.declared.selector.expressions.Waits.TheVariants as waits
use Rattle.jsonb.specs.declared.selector.expressions.Walk.{Walk}
use Rattle.jsonb.specs.declared.selector.expressions.Walked.{Walked}
use Rattle.jsonb.specs.declared.selector.expressions.Walked.TheVariants as walked
use Rattle.jsonb.specs.declared.selector.node_list.NodeList.{NodeList}
use Rattle.jsonb.specs.declared.selector.pair.Join.{Join}
use Rattle.jsonb.specs.declared.selector.pair.Join.TheVariants.{And, Or}

-- ---- what parts make of an expression

-- the truth of two joined expressions
abbrev pub both_truths : Join → Outcome Truth → Outcome Truth → Outcome Truth
both_truths And l r = and_then l (λ a. and_then r (λ b. Ok (joined_truth ◌&&◌ a b)))
both_truths Or l r = and_then l (λ a. and_then r (λ b. Ok (joined_truth ◌||◌ a b)))

-- the truth of a comparison of operands with these values
abbrev pub compared_values : BinaryOp → Outcome (List Value) → Outcome (List Value) → Outcome Truth
compared_values op l r = and_then l (λ ls. and_then r (λ rs. Ok (compare op ls rs)))

-- the truth of `exists`, and the values of an operand, whose path selects these items
abbrev pub exists_of : Outcome (List Tree) → Outcome Truth
exists_of o = and_then o (λ us. Ok (Some (is_some (first_item us))))

abbrev pub values_found : Outcome (List Tree) → Outcome (List Value)
values_found o = and_then o (λ us. Ok (flat_map values_of_item us))

abbrev pub path_steps : List Path → Steps
path_steps steps = steps_of (steps_view steps)

-- what a filter by an expression, and the steps after it, select of items
abbrev pub filtered_after : Context → Tree → Expression → List Path → Outcome (List Tree) → Outcome (List Tree)
filtered_after c top e steps o = and_then o (λ us. and_then (try_flat_map (step_meaning c.mode (filter e) top) us)
    (steps_meaning c.mode (path_steps steps) top))

-- the left operand has these values for each item
abbrev pub AreLefts : Context → (Tree → Outcome (List Value)) → List Tree → Lefts → Type 0
AreLefts c h ts (lefts.Literal l) = (t : Tree) → h t ≡ Ok (literal_value (literal_view l.now) ∷ [])
AreLefts c h ts (lefts.Lists lists) = (g : Tree → Outcome (List Tree)) × AreLists c.document.bytes.now g ts lists
    × ((t : Tree) → h t ≡ values_found (g t))

-- the operand has these values for each item
abbrev pub IsOperand : Context → Tree → (Tree → Outcome (List Value)) → List Tree → Operand → Type 0
IsOperand c top h ts (operand.Literal l) = (t : Tree) → h t ≡ Ok (literal_value (literal_view l.now) ∷ [])
IsOperand c top h ts (operand.Lists lists) = (g : Tree → Outcome (List Tree)) × AreLists c.document.bytes.now g ts lists
    × ((t : Tree) → h t ≡ values_found (g t))
IsOperand c top h ts (operand.Path path) =
    (t : Tree) → h t ≡ operand_values c.mode (paths (path_steps path.steps.now)) top t

-- the walk is at these lists, or at a filter of them
abbrev pub IsWalked : Context → Tree → (Tree → Outcome (List Tree)) → List Tree → Walked → Type 0
IsWalked c top g ts (walked.End lists) = AreLists c.document.bytes.now g ts lists
IsWalked c top g ts (walked.Filter e w) =
    (before : Tree → Outcome (List Tree)) × AreLists c.document.bytes.now before ts w.lists
    × ((t : Tree) → g t ≡ filtered_after c top (expression_view e.now) w.steps.now (before t))

-- after a step of these lists: those that it selects, or if it is a filter that is not evaluated, the same as before
abbrev pub IsStepped : Context → Tree → (Tree → Outcome (List Tree)) → List Tree → Step → Column (Outcome NodeList)
    → Option (Bor Expr) → Type 0
IsStepped c top g ts s lists None =
    AreLists c.document.bytes.now (λ t. and_then (g t) (try_flat_map (step_meaning c.mode s top))) ts lists
IsStepped c top g ts s lists (Some e) = AreLists c.document.bytes.now g ts lists × (s ≡ filter (expression_view e.now))

-- ---- what results lead to

-- the items that an expression is evaluated for, and what it is of them
pub record Aim : Type 0 where
  pub trees : List Tree
  pub meant : Tree → Outcome Truth

-- what waits for a path has this truth, by what the path selects of each item
abbrev pub WaitsFor : Context → Tree → List Tree → (Tree → Outcome (List Tree)) → Waits
    → (Tree → Outcome Truth) → Type 0
WaitsFor c top ts g waits.Exists f = (t : Tree) → f t ≡ exists_of (g t)
WaitsFor c top ts g (waits.Left op e) f = HasSome ts
    × ((t : Tree) → f t ≡ compared_values op (values_found (g t)) (operand_values c.mode (expression_view e.now) top t))
WaitsFor c top ts g (waits.Right op ls) f = (h : Tree → Outcome (List Value)) × AreLefts c h ts ls
    × ((t : Tree) → f t ≡ compared_values op (h t) (values_found (g t)))

-- the results of these items lead to the aim
abbrev pub TruthsLead : Aim → Context → Tree → List Tree → (Tree → Outcome Truth) → List Frame → Type 0
TruthsLead aim c top ts f [] = (ts ≡ aim.trees) × ((t : Tree) → f t ≡ aim.meant t)
TruthsLead aim c top ts f (frame.Left join e ∷ frames) =
    TruthsLead aim c top ts (λ t. both_truths join (f t) (truth c.mode (expression_view e.now) top t)) frames
TruthsLead aim c top ts f (frame.Right join ls ∷ frames) = (g : Tree → Outcome Truth) × AreTruths g ts ls
    × TruthsLead aim c top ts (λ t. both_truths join (g t) (f t)) frames
TruthsLead aim c top ts f (frame.Filter waits outer w ∷ frames) = (us : List Tree) × (g : Tree → Outcome (List Tree))
    × (e : Expression) × (k : Tree → Outcome Truth) × AllZip (IsAt c.document) (node_spots outer) us
    × AreLists c.document.bytes.now g us w.lists × AllZip (IsAt c.document) (flat (results w.lists)) ts
    × ((t : Tree) → f t ≡ truth c.mode e top t)
    × WaitsFor c top us (λ u. filtered_after c top e w.steps.now (g u)) waits k × TruthsLead aim c top us k frames

-- a path, for what waits for it, leads to the aim
abbrev pub WalkLeads : Aim → Context → Tree → List Tree → Waits → Walk → List Frame → Type 0
WalkLeads aim c top ts waits w frames = (g : Tree → Outcome (List Tree)) × (f : Tree → Outcome Truth)
    × AreLists c.document.bytes.now g ts w.lists
    × WaitsFor c top ts (λ t. and_then (g t) (steps_meaning c.mode (path_steps w.steps.now) top)) waits f
    × TruthsLead aim c top ts f frames

-- what is evaluated next, for these items, leads to the aim
abbrev pub TurnLeads : Aim → Context → Tree → List Tree → List Frame → Turn → Type 0
TurnLeads aim c top ts frames (turn.Ask e) = TruthsLead aim c top ts (truth c.mode (expression_view e.now) top) frames
TurnLeads aim c top ts frames (turn.Walk waits w) = WalkLeads aim c top ts waits w frames
TurnLeads aim c top ts frames (turn.Truths truths) = (f : Tree → Outcome Truth) × AreTruths f ts truths
    × TruthsLead aim c top ts f frames

-- the evaluation is for these items
abbrev pub IsForItems : Evaluation → List Tree → Type 0
IsForItems e ts = AllZip (IsAt e.context.document) (node_spots e.items) ts

-- the items that steps begin at
abbrev pub starts_of : Evaluation → List Step → List Spot
starts_of e ss = if is_relative ss then node_spots e.items else e.context.document.root ∷ []

-- the evaluation leads to the aim
pub record IsOnward (aim : Aim) (top : Tree) (e : Evaluation) (next : Turn) : Type 0 where
  pub trees : List Tree
  pub items : IsForItems e trees
  pub leads : TurnLeads aim e.context top trees (reverse e.frames.items) next

-- what leads to an aim from the evaluation before, still does
abbrev pub Continues :
    Evaluation → Evaluation → Outcome Turn → (Aim → Tree → List Tree → List Frame → Type 0) → Type 0
Continues old new answer Leads = (aim : Aim) (top : Tree) (ts : List Tree) → HasTree old.context.document top
    → IsForItems old ts → Leads aim top ts (reverse old.frames.items) → IfOk answer (IsOnward aim top new)

-- the next turn has what the expression is of these items, or leads to it
abbrev pub LeadsOn : Evaluation → Outcome Turn → (Tree → Tree → Outcome Truth) → Type 0
LeadsOn e answer meant = (aim : Aim) (top : Tree) (ts : List Tree) (frames : List Frame)
    → HasTree e.context.document top
    → IsForItems e ts → HasSome ts → TruthsLead aim e.context top ts (meant top) frames
    → IfOk answer (TurnLeads aim e.context top ts frames)

-- ---- errors, on any bytes

abbrev pub are_sound_lefts : Mode → Lefts → Type 0
are_sound_lefts mode (lefts.Literal v) = ⊤
are_sound_lefts mode (lefts.Lists lists) = AreSound mode lists

abbrev pub IsSoundOperand : Mode → Operand → Type 0
IsSoundOperand mode (operand.Lists lists) = AreSound mode lists
IsSoundOperand mode other = ⊤

abbrev pub AreSoundWaits : Mode → Waits → Type 0
AreSoundWaits mode (waits.Right op ls) = are_sound_lefts mode ls
AreSoundWaits mode other = ⊤

abbrev pub IsSoundWalked : Mode → Walked → Type 0
IsSoundWalked mode (walked.End lists) = AreSound mode lists
IsSoundWalked mode (walked.Filter e w) = AreSound mode w.lists

abbrev pub IsSoundFrame : Mode → Frame → Type 0
IsSoundFrame mode (frame.Left join e) = ⊤
IsSoundFrame mode (frame.Right join ls) = AreSound mode ls
IsSoundFrame mode (frame.Filter waits outer w) = AreSoundWaits mode waits × AreSound mode w.lists

abbrev pub IsSoundTurn : Mode → Turn → Type 0
IsSoundTurn mode (turn.Ask e) = ⊤
IsSoundTurn mode (turn.Walk waits w) = AreSoundWaits mode waits × AreSound mode w.lists
IsSoundTurn mode (turn.Truths truths) = AreSound mode truths

abbrev pub AreSoundFrames : Evaluation → Type 0
AreSoundFrames e = AllByRecursion (IsSoundFrame e.context.mode) e.frames.items

-- the errors that are stored stay those of a selection
abbrev pub StaysSound : Evaluation → Evaluation → Outcome Turn → Type 0
StaysSound old new answer =
    AreSoundFrames old → IfOk answer (λ next. IsSoundTurn new.context.mode next × AreSoundFrames new)

-- ---- how much is left

abbrev mutual
  pub step_weight : Step → ℕ
  step_weight (filter e) = 3 + weight e
  step_weight _ = 0

  pub steps_weight : Steps → ℕ
  steps_weight no_steps = 1
  steps_weight (step s rest) = step_weight s + steps_weight rest

  pub weight : Expression → ℕ
  weight (paths steps) = steps_weight steps
  weight (exists steps) = steps_weight steps
  weight (binary op l r) = 4 + weight l + weight r
  weight (unary op e) = 0
  weight (value l) = 0

abbrev pub waits_weight : Waits → ℕ
waits_weight (waits.Left op e) = 1 + weight (expression_view e.now)
waits_weight _ = 1

abbrev pub walk_weight : Walk → ℕ
walk_weight w = steps_weight (path_steps w.steps.now)

abbrev pub walked_weight : Walked → ℕ
walked_weight (walked.End lists) = 1
walked_weight (walked.Filter e w) = 3 + weight (expression_view e.now) + walk_weight w

abbrev pub operand_weight : Operand → ℕ
operand_weight (operand.Path path) = steps_weight (path_steps path.steps.now)
operand_weight other = 0

abbrev pub frame_weight : Frame → ℕ
frame_weight (frame.Left join e) = 3 + weight (expression_view e.now)
frame_weight (frame.Right join ls) = 1
frame_weight (frame.Filter waits outer w) = waits_weight waits + walk_weight w

abbrev pub turn_weight : Turn → ℕ
turn_weight (turn.Ask e) = 2 + weight (expression_view e.now)
turn_weight (turn.Walk waits w) = waits_weight waits + walk_weight w
turn_weight (turn.Truths truths) = 1

abbrev pub frames_weight : Evaluation → ℕ
frames_weight e = sum_by frame_weight e.frames.items
