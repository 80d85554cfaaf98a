-- Depths that are known in part.
use Rattle.std.specs.Prelude.{◌≡◌, ℕ, suc, max, List, Option, Some, None}
use Rattle.jsonb_doc.specs.Tree.{Tree, array, object, Trees, no_trees, values}
use Rattle.jsonb_doc.specs.Payload.{Form}
use Rattle.jsonb_doc.specs.Format.{Decodes}
use Rattle.jsonb_doc.specs.Depth.{deepest, deepest_of_trees}

-- the elements of an array, or the values of an object
abbrev pub parts_of : Tree → Trees
parts_of (array ts) = ts
parts_of (object ps) = values ps
parts_of _ = no_trees

-- if a container is left, its items have this depth, counted from its parent
abbrev pub LiesBelow : Form → Option (List ℕ) → ℕ → Type 0
LiesBelow form None below = below ≡ 0
LiesBelow form (Some bytes) below = (t : Tree) × Decodes form bytes t × (below ≡ suc (deepest t))

-- The items of these trees are this deep, except for those of the container that is left.
pub record AreDeep (form : Form) (ts : Trees) (known : ℕ) (left : Option (List ℕ)) : Type 0 where
  pub below : ℕ
  pub lies : LiesBelow form left below
  pub all : deepest_of_trees ts ≡ max known below
