-- The first item that a path selects, in place.
use Rattle.std.specs.Prelude.{◌≡◌, ℕ, Bool, true, false, List, Option}
use Rattle.jsonb_doc.specs.Answer.{Outcome, Refines, SameOption, IsOutOfMemory}
use Rattle.jsonb_doc.specs.Payload.{Form}
use Rattle.jsonb_doc.specs.Representation.Positions.{Locates}
use Rattle.jsonb_doc.specs.Tree.{Tree}
use Rattle.jsonb_doc.specs.declared.spot.Spot.{Spot}
use Rattle.jsonb.specs.PathTree.{Step, is_predicate}
use Rattle.jsonb.specs.SelectorAnswers.{first_item}
use Rattle.jsonb.specs.declared.selector.first_item.FirstItem.{FirstItem}
use Rattle.jsonb.specs.declared.selector.first_item.FirstItem.TheVariants.{At, Computed}

-- Holds if the tree is an item of the document, to which `Marks` relates its place, or an expression computes it.
abbrev pub IsFirstItem : {S : Type 0} → (S → Tree → Type 0) → Bool → FirstItem S → Tree → Type 0
IsFirstItem Marks computed (At place) t = (computed ≡ false) × Marks place t
IsFirstItem Marks computed Computed t = computed ≡ true

-- Holds if the result is the spot of the first item, or says that the path is an expression, which computes it.
abbrev pub FindsFirst : List ℕ → List Step → Form → Outcome (List Tree) → Outcome (Option (FirstItem Spot)) → Type 0
FindsFirst document path form outcome answer =
    Refines (λ found ts. SameOption (IsFirstItem (Locates document) (is_predicate path)) found (first_item ts))
    IsOutOfMemory answer outcome
