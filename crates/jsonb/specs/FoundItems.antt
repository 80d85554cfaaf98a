-- Items that a path selects, found in place.
use Rattle.std.specs.Prelude.{◌≡◌, ℕ, List}
use Rattle.jsonb_doc.specs.Payload.{Form}
use Rattle.jsonb_doc.specs.Format.{Decodes}
use Rattle.jsonb_doc.specs.Representation.Positions.{Locates}
use Rattle.jsonb_doc.specs.Tree.{Tree, number}
use Rattle.jsonb_doc.specs.View.{number_view}
use Rattle.jsonb.specs.declared.selector.found.FoundItem.{FoundItem}
use Rattle.jsonb.specs.declared.selector.found.FoundItem.TheVariants.{At, Number, Document}

-- Holds if the item, found in a document of these bytes, is the tree.
abbrev pub IsItemOf : List ℕ → Form → FoundItem → Tree → Type 0
IsItemOf document form (At spot) t = Locates document spot t
IsItemOf document form (Number n) t = t ≡ number (number_view n)
IsItemOf document form (Document made) t = Decodes form made t
