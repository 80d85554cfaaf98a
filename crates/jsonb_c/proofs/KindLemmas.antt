-- The numbers of types are the positions of their names.
use Rattle.std.proofs.Common.{◌≡◌, ◌∙◌, ℕ, Some, refl, ap}
use Rattle.std.specs.Prelude.{slice_get, codes, if◌then◌else◌}
use Rattle.jsonb_doc.specs.Arithmetic.{is_decimal}
use Rattle.jsonb_doc.specs.Extension.{Extension, binary, date, timestamp, timestamp_tz, interval}
use Rattle.jsonb_doc.specs.Number.{Variant, int64, uint64, decimal64, decimal128}
use Rattle.jsonb_doc.specs.Tree.{Tree, null, boolean, number, text, extension, array, object}
use Rattle.jsonb_c.specs.Kinds.{IsTypeOf, type_names}
use Rattle.jsonb_c.specs.Private.Numbers.{kind_number, number_kind, tree_kind}

of_variant : (v : Variant) → slice_get type_names (kind_number (number_kind v)) ≡ Some (if is_decimal v then codes "DECIMAL" else codes "INTEGER")
of_variant int64 = refl
of_variant uint64 = refl
of_variant decimal64 = refl
of_variant decimal128 = refl

of_extension : (x : Extension) → IsTypeOf (extension x) (kind_number (tree_kind (extension x)))
of_extension (binary bytes) = refl
of_extension (date value) = refl
of_extension (timestamp value) = refl
of_extension (timestamp_tz offset value) = refl
of_extension (interval months days micros) = refl

of_tree : (t : Tree) → IsTypeOf t (kind_number (tree_kind t))
of_tree null = refl
of_tree (boolean b) = refl
of_tree (number n) = of_variant n.variant
of_tree (text s) = refl
of_tree (extension x) = of_extension x
of_tree (array ts) = refl
of_tree (object ps) = refl

pub type_of : (t : Tree) (n : ℕ) → n ≡ kind_number (tree_kind t) → IsTypeOf t n
type_of t n is = ap (slice_get type_names) is ∙ of_tree t
