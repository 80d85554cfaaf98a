-- Containment of trees.
use Rattle.std.specs.Prelude.{ℕ, Bool, true, ◌&&◌, List}
use Rattle.std.specs.List.{list_any}
use Rattle.std.specs.Str.{bytes_eq}
use Rattle.jsonb_doc.specs.Tree.{Tree, array, object, Trees, no_trees, tree, Pairs, no_pairs, pair, elements, members}
use Rattle.jsonb_doc.specs.Equal.{is_equal}
use Rattle.jsonb_raw.specs.Scalars.{is_json_scalar}

abbrev mutual
  -- Whether a value of the other tree is matched by a value of the tree: an array or an object by one that contains it,
  -- anything else by what is equal by value.
  pub is_part_of : Tree → Tree → Bool
  is_part_of (array ys) (array xs) = each_is_matched ys (elements xs)
  is_part_of (object qs) (object ps) = each_pair_is_matched qs (members ps)
  is_part_of y x = is_equal x y

  -- Whether each element is matched by one of these.
  pub each_is_matched : Trees → List Tree → Bool
  each_is_matched no_trees xs = true
  each_is_matched (tree y ys) xs = list_any (is_part_of y) xs && each_is_matched ys xs

  -- Whether each member's value is matched by that of a member with its key.
  pub each_pair_is_matched : Pairs → List (List ℕ × Tree) → Bool
  each_pair_is_matched no_pairs ps = true
  each_pair_is_matched (pair key y qs) ps =
      list_any (λ p. bytes_eq p.0 key && is_part_of y p.1) ps && each_pair_is_matched qs ps

-- Whether the first tree contains the second.
abbrev pub contains : Tree → Tree → Bool
contains (array xs) (array ys) = each_is_matched ys (elements xs)
contains (object ps) (object qs) = each_pair_is_matched qs (members ps)
contains (array xs) y = is_json_scalar y && list_any (λ x. is_equal x y) (elements xs)
contains x y = is_json_scalar x && is_json_scalar y && is_equal x y
