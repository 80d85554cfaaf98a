-- The iterator over the spots of children.
use Rattle.std.specs.Prelude.{ℕ, List, [], ◌∷◌, Option, Some, None, Result, Ok}
use Rattle.jsonb_doc.specs.Tree.{Tree}
use Rattle.jsonb_doc.specs.declared.error.Error.{Error}
use Rattle.jsonb_doc.specs.declared.spot.Spot.{Spot}
use Rattle.jsonb_doc.specs.declared.spot_iter.SpotIter.{SpotIter}
use Rattle.jsonb_doc.specs.AnyBytes.Spots.{NextSpot}
use Rattle.jsonb_doc.specs.Representation.Positions.{HasSpotsLeft, Locates}

-- Holds if the result is the spot of the first of the trees, and the others remain.
abbrev pub TakesSpot : List ℕ → List Tree → Option (Result Spot Error) → SpotIter → Type 0
TakesSpot bytes [] None after = HasSpotsLeft bytes after []
TakesSpot bytes (t ∷ ts) (Some (Ok spot)) after = Locates bytes spot t × HasSpotsLeft bytes after ts
TakesSpot bytes _ _ after = ⊥

-- Holds if this is what a call of `next` does.
pub record GivesSpot (before : SpotIter) (r : Option (Result Spot Error)) (after : SpotIter) : Type 0 where
  pub any_bytes : NextSpot before r after
  pub takes : (bytes : List ℕ) (ts : List Tree) → HasSpotsLeft bytes before ts → TakesSpot bytes ts r after
