-- The equality key of a tree: bytes that two trees share if and only if they are equal by value.
use Rattle.std.specs.Prelude.{ℕ, List, [], ◌∷◌, ◌++◌, length}
use Rattle.std.specs.Int.{w32, w64, to_be_bytes}
use Rattle.jsonb_doc.specs.Tree.{Tree, number, text, extension, array, object, Trees, no_trees, tree, Pairs, no_pairs, pair, count, keys}
use Rattle.jsonb_doc.specs.Order.{rank}
use Rattle.jsonb_doc.specs.Payload.{extension_payload}
use Rattle.jsonb_raw.specs.SortableKey.{number_bytes, text_bytes}

-- A type byte and the content: counts in four bytes, the length of an extension's payload in eight.
abbrev mutual
  pub equality_key : Tree → List ℕ
  equality_key (number n) = rank (number n) ∷ number_bytes n.whole n.scale
  equality_key (text bytes) = rank (text bytes) ∷ text_bytes bytes
  equality_key (extension x) =
      rank (extension x) ∷ to_be_bytes w64 (length (extension_payload x)) ++ extension_payload x
  equality_key (array ts) = rank (array ts) ∷ to_be_bytes w32 (count ts) ++ equality_keys_of_trees ts
  equality_key (object ps) = rank (object ps) ∷ to_be_bytes w32 (length (keys ps)) ++ equality_keys_of_pairs ps
  equality_key t = rank t ∷ []

  pub equality_keys_of_trees : Trees → List ℕ
  equality_keys_of_trees no_trees = []
  equality_keys_of_trees (tree t ts) = equality_key t ++ equality_keys_of_trees ts

  pub equality_keys_of_pairs : Pairs → List ℕ
  equality_keys_of_pairs no_pairs = []
  equality_keys_of_pairs (pair k v ps) = (rank (text k) ∷ text_bytes k) ++ (equality_key v ++ equality_keys_of_pairs ps)
