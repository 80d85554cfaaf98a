-- What a path selects: places of the document, or what an expression makes.
use Rattle.std.specs.Prelude.{◌≡◌, ℕ, Bool, true, false, List, [], ◌∷◌, map, Option, Some, None, Result, if◌then◌else◌}
use Rattle.jsonb_doc.specs.Answer.{Outcome, Refines, IsOutOfMemory}
use Rattle.jsonb_doc.specs.declared.error.Error.{Error}
use Rattle.jsonb_doc.specs.declared.spot.Spot.{Spot}
use Rattle.jsonb_doc.specs.declared.number.Number.{Number as CodeNumber}
use Rattle.jsonb_doc.specs.Number.{Number}
use Rattle.jsonb_doc.specs.View.{number_view}
use Rattle.jsonb_doc.specs.Payload.{Form}
use Rattle.jsonb_doc.specs.Format.{Decodes}
use Rattle.jsonb_doc.specs.Item.{StandsFor}
use Rattle.jsonb_doc.specs.Representation.Positions.{Locates}
use Rattle.jsonb_doc.specs.Tree.{Tree, number, array, trees_of}
use Rattle.jsonb.specs.PathTree.{Expression, Step, current, filter, whole_expression}
use Rattle.jsonb.specs.Meaning.{Means}
use Rattle.std.specs.List.{AllZip}
use Rattle.jsonb.specs.Values as val
use Rattle.jsonb.specs.declared.selector.document.Document.{Document}
use Rattle.jsonb.specs.declared.selector.document.Mode.{Mode}
use Rattle.jsonb.specs.declared.selector.document.Expressions.{Expressions}
use Rattle.jsonb.specs.declared.selector.document.Expressions.TheVariants as expressions
use Rattle.jsonb.specs.declared.selector.operand_value.OperandValue.{OperandValue}
use Rattle.jsonb.specs.declared.selector.operand_value.OperandValue.TheVariants as operand_value
use Rattle.jsonb.specs.declared.selector.operand_value.OperandValues.{OperandValues}
use Rattle.jsonb.specs.declared.selector.operand_value.OperandValues.TheVariants as operand_values
use Rattle.jsonb.specs.declared.selector.node_list.NodeList.{NodeList}
use Rattle.jsonb.specs.declared.selector.node_list.NodeList.TheVariants as node_list
use Rattle.jsonb.specs.declared.selector.selected.MadeItem.{MadeItem}
use Rattle.jsonb.specs.declared.selector.selected.MadeItem.TheVariants as made_item
use Rattle.jsonb.specs.declared.selector.selected.Selected.{Selected}
use Rattle.jsonb.specs.declared.selector.selected.Selected.TheVariants as selected

-- the tree is the one at this place of the document
abbrev pub IsAt : Document → Spot → Tree → Type 0
IsAt document spot t = Locates document.bytes.now spot t

abbrev pub HasTree : Document → Tree → Type 0
HasTree document t = IsAt document document.root t

-- the value that an operand's value is
abbrev pub value_view : OperandValue → val.Value
value_view operand_value.Null = val.null
value_view (operand_value.Boolean b) = val.boolean b
value_view (operand_value.Number n) = val.number (number_view n)
value_view (operand_value.String s) = val.text s.now
value_view operand_value.Container = val.container

abbrev pub option_values : Option OperandValue → List val.Value
option_values (Some o) = value_view o ∷ []
option_values None = []

abbrev pub values_view : OperandValues → List val.Value
values_view (operand_values.One o) = value_view o ∷ []
values_view (operand_values.Many v) = map value_view v.items

abbrev pub option_spots : Option Spot → List Spot
option_spots (Some spot) = spot ∷ []
option_spots None = []

-- the places that were found
abbrev pub node_spots : NodeList → List Spot
node_spots (node_list.One spot) = spot ∷ []
node_spots (node_list.Many v) = v.items

-- the list of an item that a filter keeps, or does not
abbrev pub IsKept : Tree → Bool → List Tree → Type 0
IsKept t keeps ts = ts ≡ (if keeps then t ∷ [] else [])

-- the part is the tree: an item, or an array of one
abbrev pub IsMadeItem : Form → MadeItem → Tree → Type 0
IsMadeItem form (made_item.Item item) t = StandsFor form item t
IsMadeItem form (made_item.ArrayOf item) t = (u : Tree) × (t ≡ array (trees_of (u ∷ []))) × StandsFor form item u

-- the tree is the number
abbrev pub IsNumberItem : CodeNumber → Tree → Type 0
IsNumberItem n t = t ≡ number (number_view n)

-- what is selected are these trees
abbrev pub AreSelected : Form → Document → Selected → List Tree → Type 0
AreSelected form document (selected.Nodes places) ts = AllZip (IsAt document) (node_spots places) ts
AreSelected form document (selected.Numbers v) ts = AllZip IsNumberItem v.items ts
AreSelected form document (selected.Made part) ts = AllZip (IsMadeItem form) (part ∷ []) ts

-- the result is that of the path's meaning on the document's tree
abbrev pub GivesMeant :
    (Form → Document → Selected → List Tree → Type 0) → Document → Mode → List Step → Outcome Selected → Type 0
GivesMeant AreOf document mode path answer = (form : Form) (top : Tree) (outcome : Outcome (List Tree))
    → HasTree document top → Means form mode path top outcome
    → Refines (AreOf form document) IsOutOfMemory answer outcome

-- this holds of the trees that are selected, whatever they are
abbrev pub OfSelected : Document → Selected → (Form → List Tree → Type 0) → Type 0
OfSelected document selected Holds = (form : Form) (top : Tree) (ts : List Tree)
    → Decodes form document.bytes.now top → AreSelected form document selected ts → Holds form ts

-- a document of these bytes, and what is selected from it: the trees of a list, or its error
abbrev pub IsSelectionOf : List ℕ → Form → Outcome (List Tree) → Result (Document × Selected) Error → Type 0
IsSelectionOf bytes form outcome answer =
    Refines (λ found ts. (found.0.bytes.now ≡ bytes) × AreSelected form found.0 found.1 ts) IsOutOfMemory answer outcome

-- what a step is where an expression is a filter, or refused
abbrev pub taken_as : Expressions → Expression → Step
taken_as expressions.AreFilters e = filter e
taken_as expressions.AreRefused e = whole_expression e

abbrev pub taken_step : Expressions → Step → Step
taken_step all (whole_expression e) = taken_as all e
taken_step all s = s

abbrev pub is_filter : Step → Bool
is_filter (filter e) = true
is_filter s = false

-- a step that is not a filter, and is what it is taken as
abbrev pub IsPlain : Expressions → Step → Type 0
IsPlain all s = (is_filter s ≡ false) × (taken_step all s ≡ s)

-- the expression of a step, and the one that is the whole path
abbrev pub step_expression : Step → Option Expression
step_expression (whole_expression e) = Some e
step_expression _ = None

abbrev pub only_expression : List Step → Option Expression
only_expression (s ∷ []) = step_expression s
only_expression _ = None

abbrev pub is_relative : List Step → Bool
is_relative (current ∷ rest) = true
is_relative _ = false

-- the list of a number of the code
abbrev pub IsNumberTree : CodeNumber → List Tree → Type 0
IsNumberTree m ts = number (number_view m) ∷ [] ≡ ts

-- the only value, if it is one number
abbrev pub only_number : List val.Value → Option Number
only_number (val.number n ∷ []) = Some n
only_number _ = None
