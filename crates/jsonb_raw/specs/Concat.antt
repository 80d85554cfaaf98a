-- Concatenation of two trees.
use Rattle.std.specs.Prelude.{◌++◌}
use Rattle.std.specs.List.{fold}
use Rattle.jsonb_doc.specs.Tree.{Tree, array, object, members, trees_of, pairs_of}
use Rattle.jsonb_doc.specs.ObjectBuilder.{insert_pair}
use Rattle.jsonb_raw.specs.Arrays.{as_elements}

-- The object of two objects, with the second's value for a shared key, and the array of any other two trees.
abbrev pub concat : Tree → Tree → Tree
concat (object ps) (object qs) = object (pairs_of (fold (λ all q. insert_pair q.0 q.1 all) (members ps) (members qs)))
concat s t = array (trees_of (as_elements s ++ as_elements t))
