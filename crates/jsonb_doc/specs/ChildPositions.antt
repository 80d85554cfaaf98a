-- The remaining children of a container, by their positions in the bytes.
use Rattle.std.specs.Prelude.{◌≡◌, ℕ, List, Option, Some, None, MatchOption, IsSomeAnd, ⊤}
use Rattle.jsonb_doc.specs.Tree.{Tree, text, array, object, no_trees, tree, no_pairs, pair, children_of}
use Rattle.jsonb_doc.specs.declared.child_positions.Child.{Child}
use Rattle.jsonb_doc.specs.declared.child_positions.ChildPositions.{ChildPositions}
use Rattle.jsonb_doc.specs.Representation.Positions.{HasChildrenLeft}

-- Holds if all children of the tree remain, or it is a scalar and there are no positions.
abbrev pub OpensChildren : List ℕ → Tree → Option ChildPositions → Type 0
OpensChildren bytes t found = MatchOption found (children_of t ≡ None) (λ at. HasChildrenLeft bytes at t)

-- Holds if the result is the first child, with its key if it is a member, and the others remain. `Marks` relates what
-- is found to its tree.
abbrev pub TakesChild : {S : Type 0} → (S → Tree → Type 0) → List ℕ → Tree → Option (Child S) → ChildPositions → Type 0
TakesChild Marks bytes (array no_trees) None after = ⊤
TakesChild Marks bytes (array (tree t ts)) (Some child) after =
    (child.key ≡ None) × Marks child.value t × HasChildrenLeft bytes after (array ts)
TakesChild Marks bytes (object no_pairs) None after = ⊤
TakesChild Marks bytes (object (pair key t ps)) (Some child) after =
    IsSomeAnd child.key (λ found. Marks found (text key)) × Marks child.value t
    × HasChildrenLeft bytes after (object ps)
TakesChild Marks bytes _ _ after = ⊥
