-- The leaves of a tree, with the paths to them.
use Rattle.std.specs.Prelude.{ℕ, suc, pos, Bool, true, false, List, [], ◌∷◌, ◌++◌, map, if◌then◌else◌}
use Rattle.jsonb_doc.specs.Tree.{Tree, array, object, Trees, no_trees, tree, Pairs, no_pairs, pair}
use Rattle.jsonb_keypath.specs.KeyPathGrammar.{Key, index, unquoted_name}

-- The steps to a value, and the value.
abbrev pub Leaf : Type 0
Leaf = List Key × Tree

-- Whether a value is a leaf: a scalar, an empty container, and if arrays are ignored each array.
abbrev pub is_leaf : Bool → Tree → Bool
is_leaf ignore_array (array (tree t ts)) = ignore_array
is_leaf ignore_array (object (pair key t ps)) = false
is_leaf ignore_array _ = true

-- The leaves at the child that a step selects: the child itself if it is a leaf, otherwise those in it.
abbrev pub leaves_at : Bool → Key → Tree → List Leaf → List Leaf
leaves_at ignore_array step t within =
    map (λ leaf. (step ∷ leaf.0, leaf.1)) (if is_leaf ignore_array t then ([], t) ∷ [] else within)

abbrev mutual
  -- The leaves in a tree, in stored order; if arrays are ignored, an array has none.
  pub leaves : Bool → Tree → List Leaf
  leaves ignore_array (array ts) = if ignore_array then [] else leaves_of_trees ignore_array 0 ts
  leaves ignore_array (object ps) = leaves_of_pairs ignore_array ps
  leaves ignore_array _ = []

  -- The leaves at elements, the first of which has this position.
  pub leaves_of_trees : Bool → ℕ → Trees → List Leaf
  leaves_of_trees ignore_array n no_trees = []
  leaves_of_trees ignore_array n (tree t ts) =
      leaves_at ignore_array (index (pos n)) t (leaves ignore_array t) ++ leaves_of_trees ignore_array (suc n) ts

  -- The leaves at the values of members.
  pub leaves_of_pairs : Bool → Pairs → List Leaf
  leaves_of_pairs ignore_array no_pairs = []
  leaves_of_pairs ignore_array (pair key t ps) =
      leaves_at ignore_array (unquoted_name key) t (leaves ignore_array t) ++ leaves_of_pairs ignore_array ps
