-- Which trees are equal by value.
use Rattle.std.specs.Prelude.{Bool, true, false, ◌&&◌}
use Rattle.std.specs.Ordering.{eq_by_cmp, int_eq}
use Rattle.std.specs.Str.{bytes_eq}
use Rattle.jsonb_doc.specs.Number.{number_cmp}
use Rattle.jsonb_doc.specs.Extension.{Extension, binary, date, timestamp, timestamp_tz, interval}
use Rattle.jsonb_doc.specs.Tree.{Tree, null, boolean, number, text, extension, array, object, Trees, no_trees, tree, Pairs, no_pairs, pair}

-- Whether both are of one type, with the same fields.
abbrev pub is_same_extension : Extension → Extension → Bool
is_same_extension (binary a) (binary b) = bytes_eq a b
is_same_extension (date x) (date y) = int_eq x y
is_same_extension (timestamp x) (timestamp y) = int_eq x y
is_same_extension (timestamp_tz o x) (timestamp_tz p y) = int_eq o p && int_eq x y
is_same_extension (interval m d x) (interval n e y) = int_eq m n && int_eq d e && int_eq x y
is_same_extension _ _ = false

-- Whether both have the same shape, with numbers of one exact value and extension values of the same fields.
abbrev mutual
  pub is_equal : Tree → Tree → Bool
  is_equal null null = true
  is_equal (boolean true) (boolean true) = true
  is_equal (boolean false) (boolean false) = true
  is_equal (number m) (number n) = eq_by_cmp number_cmp m n
  is_equal (text a) (text b) = bytes_eq a b
  is_equal (extension x) (extension y) = is_same_extension x y
  is_equal (array ts) (array us) = are_equal ts us
  is_equal (object ps) (object qs) = pairs_are_equal ps qs
  is_equal _ _ = false

  pub are_equal : Trees → Trees → Bool
  are_equal no_trees no_trees = true
  are_equal (tree t ts) (tree u us) = is_equal t u && are_equal ts us
  are_equal _ _ = false

  pub pairs_are_equal : Pairs → Pairs → Bool
  pairs_are_equal no_pairs no_pairs = true
  pairs_are_equal (pair k t ps) (pair l u qs) = bytes_eq k l && is_equal t u && pairs_are_equal ps qs
  pairs_are_equal _ _ = false
