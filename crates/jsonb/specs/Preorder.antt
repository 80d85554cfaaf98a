-- The items that a recursive step selects.
use Rattle.std.specs.Prelude.{ℕ, ◌+◌, List, [], ◌∷◌, ◌++◌, Option, Some, None, if◌then◌else◌}
use Rattle.jsonb_doc.specs.Tree.{Tree, array, object, Trees, no_trees, tree, Pairs, no_pairs, pair}
use Rattle.jsonb.specs.PathTree.{Levels}
use Rattle.jsonb.specs.LevelTable.{at_level}

-- The item itself, if its level is selected; without levels each is.
abbrev pub taken_item : Option Levels → ℕ → Tree → List Tree
taken_item (Some levels) n t = if (at_level levels.end levels.start n).0 then t ∷ [] else []
taken_item None n t = t ∷ []

-- The items from this one down, each before its children.
abbrev mutual
  pub preorder : Option Levels → ℕ → Tree → List Tree
  preorder levels n (array ts) = taken_item levels n (array ts) ++ preorder_elements levels (n + 1) ts
  preorder levels n (object ps) = taken_item levels n (object ps) ++ preorder_values levels (n + 1) ps
  preorder levels n t = taken_item levels n t

  pub preorder_elements : Option Levels → ℕ → Trees → List Tree
  preorder_elements levels n no_trees = []
  preorder_elements levels n (tree t ts) = preorder levels n t ++ preorder_elements levels n ts

  pub preorder_values : Option Levels → ℕ → Pairs → List Tree
  preorder_values levels n no_pairs = []
  preorder_values levels n (pair key t ps) = preorder levels n t ++ preorder_values levels n ps
