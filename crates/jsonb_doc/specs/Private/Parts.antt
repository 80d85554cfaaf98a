-- The number of nodes of a value: each value within it, at every depth, and itself. The number of steps that dropping
-- it still takes.
use Rattle.std.specs.Prelude.{◌≡◌, ℕ, ◌+◌, ◌*◌, List, String, Option, None, Some}
use Rattle.std.specs.declared.alloc.Global.{Global}
use Rattle.jsonb_doc.specs.Tree.{Tree, array, object, Trees, no_trees, tree, Pairs, no_pairs, pair, trees_of, pairs_of}
use Rattle.jsonb_doc.specs.View.{number_view}
use Rattle.jsonb_doc.specs.Value.{value_tree}
use Rattle.jsonb_doc.specs.Private.Values.{trees_seen, members_seen}
use Rattle.jsonb_doc.specs.declared.value.Value.{Value, Array, Object}
use Rattle.jsonb_doc.specs.declared.value.release.Held.{Held}
use Rattle.jsonb_doc.specs.declared.value.release.Held.TheVariants.{Values, Members, Nothing}
use Rattle.jsonb_doc.specs.declared.value.release.Remaining.{Remaining}

abbrev mutual
  pub tree_parts : Tree → ℕ
  tree_parts (array ts) = 1 + trees_parts ts
  tree_parts (object ps) = 1 + pairs_parts ps
  tree_parts _ = 1

  pub trees_parts : Trees → ℕ
  trees_parts no_trees = 0
  trees_parts (tree t ts) = tree_parts t + trees_parts ts

  pub pairs_parts : Pairs → ℕ
  pairs_parts no_pairs = 0
  pairs_parts (pair key t ps) = tree_parts t + pairs_parts ps

abbrev pub parts : Value → ℕ
parts v = tree_parts (value_tree v)

-- the values of an array, and the members of an object, with all that is within them
abbrev pub values_parts : List Value → ℕ
values_parts vs = trees_parts (trees_of (trees_seen number_view vs))

abbrev pub entries_parts : List (String Global × Value) → ℕ
entries_parts es = pairs_parts (pairs_of (members_seen number_view es))

-- the children of the value
abbrev pub IsHeldBy : Held → Value → Type 0
IsHeldBy (Values vs) v = v ≡ Array vs
IsHeldBy (Members ms) v = v ≡ Object ms
IsHeldBy Nothing v = parts v ≡ 1

abbrev pub waiting_parts : Option Value → ℕ
waiting_parts None = 0
waiting_parts (Some v) = parts v

-- a measure of the nodes of the value and of those that wait: it decreases with their sum, and if that stays, with
-- the first
unfoldable pub to_release : ℕ → ℕ → ℕ
to_release next waiting = (next + waiting) * (next + waiting) + next

abbrev pub remaining : Remaining → ℕ
remaining r = to_release (parts r.next) (waiting_parts r.waiting)
