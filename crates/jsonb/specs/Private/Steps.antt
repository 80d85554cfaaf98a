-- Results of the functions that evaluate steps and filters.
use Rattle.std.specs.Prelude.{◌≡◌, List, [], ◌∷◌, map}
use Rattle.std.specs.List.{AllZip}
use Rattle.jsonb_doc.specs.Answer.{Outcome, Refines, IsOutOfMemory}
use Rattle.jsonb_doc.specs.Tree.{Tree}
use Rattle.jsonb_doc.specs.declared.spot.Spot.{Spot}
use Rattle.jsonb.specs.PathTree.{Expression, steps_of}
use Rattle.jsonb.specs.PathViews.{steps_view}
use Rattle.jsonb.specs.Compare.{Truth}
use Rattle.jsonb.specs.Meaning.{truth, steps_meaning}
use Rattle.jsonb.specs.Private.Alike.{HasSame}
use Rattle.jsonb.specs.Private.Selection.{IsAt, HasTree, node_spots, taken_step}
use Rattle.jsonb.specs.declared.path.Path.{Path}
use Rattle.jsonb.specs.declared.selector.document.Context.{Context}
use Rattle.jsonb.specs.declared.selector.document.Current.{Current}
use Rattle.jsonb.specs.declared.selector.document.Document.{Document}
use Rattle.jsonb.specs.declared.selector.document.Expressions.{Expressions}
use Rattle.jsonb.specs.declared.selector.document.Repeats.{Repeats}
use Rattle.jsonb.specs.declared.selector.node_list.NodeList.{NodeList}

-- the result is whether the expression is true for the item
abbrev pub RefinesTruth : Current → Expression → Outcome Truth → Type 0
RefinesTruth current e answer = (top t : Tree) → HasTree current.context.now.document top
    → IsAt current.context.now.document current.item t
    → Refines (λ b c. b ≡ c) IsOutOfMemory answer (truth current.context.now.mode e top t)

-- the result is what the steps select from an item, except for repeats if these are dropped
abbrev pub SelectsSteps : Context → Expressions → Repeats → List Path → Spot → Outcome NodeList → Type 0
SelectsSteps context expressions repeats steps first answer = (top t : Tree) → HasTree context.document top
    → IsAt context.document first t
    → Refines (λ found us. HasSame repeats context.document.bytes.now (node_spots found) us) IsOutOfMemory answer
    (steps_meaning context.mode (steps_of (map (taken_step expressions) (steps_view steps))) top (t ∷ []))

-- the result is the positions of the items
abbrev pub AreFound : Document → Outcome NodeList → Outcome (List Tree) → Type 0
AreFound document answer outcome =
    Refines (λ found us. AllZip (IsAt document) (node_spots found) us) IsOutOfMemory answer outcome
