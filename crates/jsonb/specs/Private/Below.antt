-- What a recursive step has left of the containers that it is sized.
use Rattle.std.specs.Prelude.{◌≡◌, ◌⊎◌, ℕ, ◌+◌, ◌≤◌, min, nat_le, Bool, true, false, not, ◌&&◌, List, [], ◌∷◌, ◌++◌, flat_map, Option, Some, None}
use Rattle.jsonb_doc.specs.Representation.Positions.{Locates, HasSpotsLeft}
use Rattle.jsonb_doc.specs.declared.spot.Spot.{Spot}
use Rattle.jsonb_doc.specs.declared.spot_iter.SpotIter.{SpotIter}
use Rattle.jsonb_doc.specs.Tree.{Tree}
use Rattle.jsonb.specs.PathTree.{Levels}
use Rattle.jsonb.specs.LevelTable.{at_level}
use Rattle.jsonb.specs.Preorder.{taken_item, preorder}
use Rattle.std.specs.List.{AllZip}
use Rattle.jsonb.specs.declared.selector.levels.LevelRange.{LevelRange}
use Rattle.jsonb.specs.declared.selector.levels.OpenLevel.{OpenLevel}

-- whether an item of this level is selected, and whether one of a deeper level may be; without levels both
abbrev pub answer_at : Option Levels → ℕ → Bool × Bool
answer_at (Some levels) n = at_level levels.end levels.start n
answer_at None n = (true, true)

-- these items are left at this level, of which more than 256 count as 256
abbrev pub HasLeft : List ℕ → OpenLevel → List Tree → ℕ → Type 0
HasLeft bytes within ts n = HasSpotsLeft bytes within.children ts × (within.level ≡ min n 256)

-- what is below an item: its children if they are visited, otherwise nothing
abbrev pub AreBelow : List ℕ → Option Levels → ℕ → Tree → Option OpenLevel → Type 0
AreBelow bytes levels n t None = preorder levels n t ≡ taken_item levels n t
AreBelow bytes levels n t (Some within) =
    (ts : List Tree) × HasLeft bytes within ts (n + 1)
    × (preorder levels n t ≡ taken_item levels n t ++ flat_map (preorder levels (n + 1)) ts)

-- items up to the first that may have children are appended: all, or that item and others come next
abbrev pub PassesLeaves : List ℕ → Option Levels → ℕ → List Tree → List Tree → List Spot
    → Option (Spot × SpotIter) → Type 0
PassesLeaves bytes levels n ts before nodes None =
    AllZip (Locates bytes) nodes (before ++ flat_map (preorder levels n) ts)
PassesLeaves bytes levels n ts before nodes (Some (spot, others)) =
    (passed : List Tree) × (t : Tree) × (rest : List Tree) × (ts ≡ passed ++ t ∷ rest) × Locates bytes spot t
    × HasSpotsLeft bytes others rest × AllZip (Locates bytes) nodes (before ++ flat_map (preorder levels n) passed)

-- nothing of this level and of those below it is taken
abbrev pub is_shut : Option Levels → ℕ → Bool
is_shut levels n = not (answer_at levels n).0 && not (answer_at levels n).1

-- The range holds the levels at which these select an item, with more than 256 counted as 256. From its last level on
-- they do not visit children, or nothing below is selected.
pub record AreLevelsOf (levels : Option Levels) (range : LevelRange) : Type 0 where
  pub taken : (n : ℕ) → (nat_le range.first (min n 256) && nat_le (min n 256) range.last) ≡ (answer_at levels n).0
  pub left : (n : ℕ) → range.last ≤ min n 256 → ((answer_at levels n).1 ≡ false) ⊎ (is_shut levels (n + 1) ≡ true)

-- the level is added to those around it, or it has nothing left
abbrev pub KeepsLevel : List OpenLevel → OpenLevel → List OpenLevel → Type 0
KeepsLevel around within kept =
    (kept ≡ around ++ within ∷ [])
    ⊎ ((kept ≡ around) × ((bytes : List ℕ) (ts : List Tree) → HasSpotsLeft bytes within.children ts → ts ≡ []))
