-- The first item that steps select, in lax mode. Each step is evaluated item by item.
use Rattle.std.specs.Prelude.{◌≡◌, ℕ, Bool, true, false, List, [], ◌∷◌, ◌++◌, reverse, map, Option, Some, None, Result, Ok, IfOk}
use Rattle.jsonb_doc.specs.Answer.{Outcome, Refines, SameOption, IsOutOfMemory}
use Rattle.jsonb_doc.specs.Payload.{Form}
use Rattle.jsonb_doc.specs.Representation.Positions.{Locates, HasSpotsLeft}
use Rattle.jsonb_doc.specs.Tree.{Tree}
use Rattle.jsonb_doc.specs.declared.error.Error.{Error}
use Rattle.jsonb_doc.specs.declared.spot.Spot.{Spot}
use Rattle.jsonb.specs.PathTree.{Step, filter, whole_expression, Expression, steps_of}
use Rattle.jsonb.specs.PathViews.{step_view, steps_view}
use Rattle.std.specs.List.{AllZip}
use Rattle.jsonb.specs.Meaning.{steps_meaning}
use Rattle.jsonb.specs.Private.Compared.{RefinesIfAny}
use Rattle.jsonb.specs.Private.ItemSteps.{AreGiven}
use Rattle.jsonb.specs.Private.Selection.{IsAt, AreSelected, option_spots, taken_step}
use Rattle.jsonb.specs.Private.Tests.{tests_in, AreTestsOf}
use Rattle.jsonb.specs.SelectorAnswers.{first_item}
use Rattle.jsonb.specs.declared.path.Path.{Path}
use Rattle.jsonb.specs.declared.selector.document.Document.{Document}
use Rattle.jsonb.specs.declared.selector.document.Expressions.{Expressions}
use Rattle.jsonb.specs.declared.selector.document.Mode.{Mode}
use Rattle.jsonb.specs.declared.selector.document.Mode.TheVariants.{Lax}
use Rattle.jsonb.specs.declared.selector.plan.Condition.{Condition}
use Rattle.jsonb.specs.declared.selector.search.Ahead.{Ahead}
use Rattle.jsonb.specs.declared.selector.search.Conditions.{Conditions}
use Rattle.jsonb.specs.declared.selector.search.Conditions.TheVariants as conditions
use Rattle.jsonb.specs.declared.selector.search.Items.{Items}
use Rattle.jsonb.specs.declared.selector.search.Items.TheVariants as items
use Rattle.jsonb.specs.declared.selector.children.StepItems.{StepItems}
use Rattle.jsonb.specs.declared.selector.search.Reached.{Reached}
use Rattle.jsonb.specs.declared.selector.search.Reached.TheVariants as reached
use Rattle.jsonb.specs.declared.selector.selected.Selected.{Selected}

-- a filter, or an expression that may be one
abbrev pub has_condition : Step → Bool
has_condition (filter e) = true
has_condition (whole_expression e) = true
has_condition _ = false

-- the step is a filter by this condition
abbrev pub IsTested : Condition → Step → Type 0
IsTested condition s = (e : Expression) × (s ≡ filter e) × AreTestsOf (tests_in condition) e

-- Holds if the first of the steps is this one, with the first of the conditions if it is a filter, and the others have
-- the other conditions.
abbrev pub FirstAhead : Bool → Path → Step → List Condition → (List Condition → Type 0) → Type 0
FirstAhead false path s conditions Others = (s ≡ step_view path) × Others conditions
FirstAhead true path s [] Others = ⊥
FirstAhead true path s (condition ∷ conditions) Others = IsTested condition s × Others conditions

-- these are the steps, with the conditions of the filters among them
abbrev pub AreAhead : List Path → List Step → List Condition → Type 0
AreAhead [] [] [] = Unit {0}
AreAhead (path ∷ paths) (s ∷ ss) conditions =
    FirstAhead (has_condition (step_view path)) path s conditions (λ others. AreAhead paths ss others)
AreAhead _ _ _ = ⊥

abbrev pub conditions_in : Conditions → List Condition
conditions_in (conditions.One condition) = condition ∷ []
conditions_in (conditions.Many v) = v.items

-- Holds if the conditions are those of the steps before and of this one, unless the result is false: the step cannot be
-- one of a search.
abbrev pub AddsStep : Expressions → Path → List Condition → Result Bool Error → List Condition → Type 0
AddsStep expressions path before answer after = (paths : List Path) (ss : List Step) → AreAhead paths ss before
    → IfOk answer (λ fits. fits ≡ true
    → AreAhead (paths ++ path ∷ []) (ss ++ taken_step expressions (step_view path) ∷ []) after)

abbrev pub IsAhead : Ahead → List Step → Type 0
IsAhead ahead ss = AreAhead ahead.steps.now ss ahead.conditions.now

-- Holds if the result is what the first of the steps selects of an item, and the steps after it.
abbrev pub TakesStep : List ℕ → Tree → Tree → List Step → Option (StepItems × Ahead) → Type 0
TakesStep bytes top t ss None = ss ≡ []
TakesStep bytes top t ss (Some taken) = (us : List Tree) × (rest : List Step) × AreGiven bytes taken.0 us
    × IsAhead taken.1 rest × (steps_meaning Lax (steps_of ss) top (t ∷ []) ≡ steps_meaning Lax (steps_of rest) top us)

-- these items are left
abbrev pub HasItems : List ℕ → Items → List Tree → Type 0
HasItems bytes (items.Children children) ts = HasSpotsLeft bytes children ts
HasItems bytes (items.Listed v) ts = AllZip (Locates bytes) (reverse v.items) ts

-- Holds if the result is the position of the first of the items, and the others are left.
abbrev pub TakesItem : List ℕ → List Tree → Option (Result Spot Error) → Items → Type 0
TakesItem bytes [] None after = HasItems bytes after []
TakesItem bytes (t ∷ ts) (Some (Ok spot)) after = Locates bytes spot t × HasItems bytes after ts
TakesItem bytes _ _ after = ⊥

-- the result is what a step selects, as the items that are left
abbrev pub GivesLeft : List ℕ → StepItems → Outcome Items → Type 0
GivesLeft bytes given answer =
    (ts : List Tree) → AreGiven bytes given ts → Refines (HasItems bytes) IsOutOfMemory answer (Ok ts)

-- the steps lead from the item to one at most, or to those that are left, with steps before them
abbrev pub IsReached : List ℕ → Tree → Tree → List Step → Reached → Type 0
IsReached bytes top t ss (reached.AtMostOne found) =
    (us : List Tree) × AllZip (Locates bytes) (option_spots found) us
    × (steps_meaning Lax (steps_of ss) top (t ∷ []) ≡ Ok us)
IsReached bytes top t ss (reached.Many inner) =
    (us : List Tree) × (rest : List Step) × HasItems bytes inner.items us
    × IsAhead inner.ahead rest
    × (steps_meaning Lax (steps_of ss) top (t ∷ []) ≡ steps_meaning Lax (steps_of rest) top us)

-- the result is the first item that the steps select from an item, if it is known
abbrev pub FindsFirst : Document → Mode → Expressions → List Path → Spot → Outcome (Option (Option Spot)) → Type 0
FindsFirst document mode expressions steps first answer = (top t : Tree) → IsAt document first t
    → RefinesIfAny (λ found us. SameOption (IsAt document) found (first_item us)) answer
    (steps_meaning mode (steps_of (map (taken_step expressions) (steps_view steps))) top (t ∷ []))

-- what is selected begins as these trees do
abbrev pub BeginsAs : Form → Document → Selected → List Tree → Type 0
BeginsAs form document found ts =
    (us : List Tree) × AreSelected form document found us × (first_item us ≡ first_item ts)
