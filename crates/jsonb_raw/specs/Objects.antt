-- Definitions of the functions on objects.
use Rattle.std.specs.Prelude.{ℕ, Bool, not, is_some, List, filter, map, Option, option_map}
use Rattle.std.specs.Borrow.{Bor}
use Rattle.std.specs.BTreeSet.{BTreeSet, contains_by}
use Rattle.std.specs.Ordering.{nat_cmp}
use Rattle.std.specs.Cmp.Lexicographic.{slice_cmp}
use Rattle.jsonb_doc.specs.ObjectBuilder.{insert_pair}
use Rattle.jsonb_doc.specs.Tree.{Tree, text, array, object, keys, members, field_of, pairs_in, pairs_of, trees_of}

-- A set of names.
abbrev pub TextSet : Type 0
TextSet = BTreeSet (Bor (List ℕ))

-- Whether the set has the name.
abbrev pub is_in : TextSet → List ℕ → Bool
is_in set name = contains_by (λ k. slice_cmp nat_cmp name k.now) set

-- The object with other members, and nothing of another tree.
abbrev pub with_pairs : (List (List ℕ × Tree) → List (List ℕ × Tree)) → Tree → Option Tree
with_pairs change t = option_map (λ ps. object (pairs_of (change (members ps)))) (pairs_in t)

-- The object of the members whose keys are in the set.
abbrev pub object_pick : TextSet → Tree → Option Tree
object_pick set t = with_pairs (filter (λ p. is_in set p.0)) t

-- The object of the members whose keys are not in the set.
abbrev pub object_delete : TextSet → Tree → Option Tree
object_delete set t = with_pairs (filter (λ p. not (is_in set p.0))) t

-- The array of an object's keys.
abbrev pub object_keys : Tree → Option Tree
object_keys t = option_map (λ ps. array (trees_of (map text (keys ps)))) (pairs_in t)

-- An object's members, in the order of their keys.
abbrev pub object_each : Tree → Option (List (List ℕ × Tree))
object_each t = option_map members (pairs_in t)

-- The object with one more member, or with another value for the key.
abbrev pub object_insert : List ℕ → Tree → Tree → Option Tree
object_insert name value t = with_pairs (insert_pair name value) t

-- Whether the object has the key.
abbrev pub has_name : List ℕ → Tree → Bool
has_name name t = is_some (field_of name t)
