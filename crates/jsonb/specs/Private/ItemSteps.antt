-- The steps of the meaning that depend on one item only, as functions of it, and what the code gives for them.
use Rattle.std.specs.Prelude.{◌≡◌, ◌++◌, ℕ, List, [], ◌∷◌, option_map}
use Rattle.std.specs.List.{AllZip}
use Rattle.jsonb_doc.specs.Answer.{Outcome, Refines, IsOutOfMemory}
use Rattle.jsonb_doc.specs.Representation.Positions.{Locates, HasSpotsLeft}
use Rattle.jsonb_doc.specs.Tree.{Tree}
use Rattle.jsonb_doc.specs.declared.spot.Spot.{Spot}
use Rattle.jsonb_raw.specs.Arrays.{array_values}
use Rattle.jsonb.specs.ItemSteps.{values_of, list_or, picked}
use Rattle.jsonb.specs.PathTree.{Entry}
use Rattle.jsonb.specs.Preorder.{preorder}
use Rattle.jsonb.specs.Private.Selection.{option_spots}
use Rattle.jsonb.specs.declared.selector.children.StepItems.{StepItems}
use Rattle.jsonb.specs.declared.selector.children.StepItems.TheVariants as given
use Rattle.jsonb.specs.declared.selector.document.Mode.{Mode}

-- an object's values
abbrev pub values_step : Mode → Tree → Outcome (List Tree)
values_step mode t = list_or mode [] (values_of t)

-- an array's elements that the subscripts denote
abbrev pub indices_step : Mode → List Entry → Tree → Outcome (List Tree)
indices_step mode entries t = list_or mode [] (option_map (picked entries) (array_values t))

-- these are the items that a step gives
abbrev pub AreGiven : List ℕ → StepItems → List Tree → Type 0
AreGiven bytes (given.AtMostOne found) ts = AllZip (Locates bytes) (option_spots found) ts
AreGiven bytes (given.Children children) ts = HasSpotsLeft bytes children ts
AreGiven bytes (given.Picked entries elements) ts =
    (us : List Tree) × HasSpotsLeft bytes elements us × (ts ≡ picked entries.now us)
AreGiven bytes (given.Levels levels item) ts = (t : Tree) × Locates bytes item t × (ts ≡ preorder levels 0 t)

-- Holds if the result is what the step selects of the tree at a position.
abbrev pub GivesItems : List ℕ → Spot → Outcome StepItems → (Tree → Outcome (List Tree)) → Type 0
GivesItems bytes item answer step =
    (t : Tree) → Locates bytes item t → Refines (AreGiven bytes) IsOutOfMemory answer (step t)

-- Holds if the items of the outcome are appended to the positions of others.
abbrev pub AreAppended :
    List ℕ → List Spot → List Spot → List Tree → Outcome (Unit {0}) → Outcome (List Tree) → Type 0
AreAppended bytes old new before answer outcome = AllZip (Locates bytes) old before
    → Refines (λ _ us. AllZip (Locates bytes) new (before ++ us)) IsOutOfMemory answer outcome
