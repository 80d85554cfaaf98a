-- The tree without the members whose value is null.
use Rattle.std.specs.Prelude.{if◌then◌else◌}
use Rattle.jsonb_doc.specs.Tree.{Tree, array, object, Trees, no_trees, tree, Pairs, no_pairs, pair}
use Rattle.jsonb_raw.specs.Scalars.{is_null}

-- At every depth; elements of arrays and the root remain.
abbrev mutual
  pub strip : Tree → Tree
  strip (array ts) = array (strip_trees ts)
  strip (object ps) = object (strip_pairs ps)
  strip t = t

  pub strip_trees : Trees → Trees
  strip_trees no_trees = no_trees
  strip_trees (tree t ts) = tree (strip t) (strip_trees ts)

  pub strip_pairs : Pairs → Pairs
  strip_pairs no_pairs = no_pairs
  strip_pairs (pair key t ps) = if is_null t then strip_pairs ps else pair key (strip t) (strip_pairs ps)
