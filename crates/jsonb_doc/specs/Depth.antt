-- The depth of the items of a tree.
use Rattle.std.specs.Prelude.{ℕ, suc, max}
use Rattle.jsonb_doc.specs.Tree.{Tree, array, object, Trees, no_trees, tree, Pairs, no_pairs, pair}

-- The depth of the deepest item. The root has depth 0, and an object's keys have the depth of its values.
abbrev mutual
  pub deepest : Tree → ℕ
  deepest (array ts) = deepest_of_trees ts
  deepest (object ps) = deepest_of_pairs ps
  deepest _ = 0

  pub deepest_of_trees : Trees → ℕ
  deepest_of_trees no_trees = 0
  deepest_of_trees (tree t ts) = max (suc (deepest t)) (deepest_of_trees ts)

  pub deepest_of_pairs : Pairs → ℕ
  deepest_of_pairs no_pairs = 0
  deepest_of_pairs (pair key t ps) = max (suc (deepest t)) (deepest_of_pairs ps)
