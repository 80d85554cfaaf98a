-- Containers that are copied part by part.
use Rattle.std.specs.Prelude.{ℕ, ◌+◌, List, [], ◌∷◌, ◌++◌, String, string_bytes}
use Rattle.std.specs.declared.alloc.Global.{Global}
use Rattle.std.specs.Slice.Iter.{iter_rest}
use Rattle.jsonb_doc.specs.Number as spec
use Rattle.jsonb_doc.specs.Tree.{Tree, array, object, trees_of, pairs_of}
use Rattle.jsonb_doc.specs.ObjectBuilder.{insert_pair}
use Rattle.jsonb_doc.specs.View.{number_view}
use Rattle.jsonb_doc.specs.Value.{tree_seen}
use Rattle.jsonb_doc.specs.Private.Values.{trees_seen, members_seen}
use Rattle.jsonb_doc.specs.Private.Parts.{tree_parts, values_parts, entries_parts}
use Rattle.jsonb_doc.specs.declared.number.Number.{Number}
use Rattle.jsonb_doc.specs.declared.value.Value.{Value}
use Rattle.jsonb_doc.specs.declared.value.copy.Part.{Part}
use Rattle.jsonb_doc.specs.declared.value.copy.Part.TheVariants as part
use Rattle.jsonb_doc.specs.declared.value.copy.Open.{Open}
use Rattle.jsonb_doc.specs.declared.value.copy.Open.TheVariants as open_at
use Rattle.jsonb_doc.specs.declared.value.copy.Filled.{Filled}
use Rattle.jsonb_doc.specs.declared.value.copy.Filled.TheVariants.{Whole, Within}

-- the pairs qs, with each of ps in its place
abbrev pub insert_pairs : List (List ℕ × Tree) → List (List ℕ × Tree) → List (List ℕ × Tree)
insert_pairs [] qs = qs
insert_pairs (p ∷ ps) qs = insert_pairs ps (insert_pair p.0 p.1 qs)

module _ (seen : Number → spec.Number) where
  -- the array of these copies, and of the trees after them
  abbrev pub array_seen : List Value → List Tree → Tree
  array_seen copies left = array (trees_of (trees_seen seen copies ++ left))

  -- the object of these copies, and of the members that are left
  abbrev pub object_seen : List (String Global × Value) → List (String Global × Value) → Tree
  object_seen copies left = object (pairs_of (insert_pairs (members_seen seen left) (members_seen seen copies)))

  abbrev pub part_tree : Part → Tree
  part_tree (part.Scalar v) = tree_seen seen v
  part_tree (part.Array vs) = array (trees_of (trees_seen seen vs.now.items))
  part_tree (part.Object m) = object (pairs_of (members_seen seen m.now.entries))

  -- the container with this tree as the part that is missing, once it is copied
  abbrev pub with_part : Open → Tree → Tree
  with_part (open_at.Array copies left) t = array_seen copies.items (t ∷ trees_seen seen (iter_rest left))
  with_part (open_at.Object copies key left) t =
      object (pairs_of (insert_pairs (members_seen seen left)
      (insert_pair (string_bytes key.now) t (members_seen seen copies.entries))))

  -- the tree of what is filled, once the part is copied
  abbrev pub filled_tree : Filled → Tree
  filled_tree (Whole v) = tree_seen seen v
  filled_tree (Within outer p) = with_part outer (part_tree p)

-- the number of parts that remain to be copied
abbrev pub part_parts : Part → ℕ
part_parts p = tree_parts (part_tree number_view p)

abbrev pub left_parts : Open → ℕ
left_parts (open_at.Array copies left) = values_parts (iter_rest left)
left_parts (open_at.Object copies key left) = entries_parts left

abbrev pub filled_parts : Filled → ℕ
filled_parts (Whole v) = 0
filled_parts (Within outer p) = part_parts p + left_parts outer
