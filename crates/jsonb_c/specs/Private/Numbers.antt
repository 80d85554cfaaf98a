-- The types of documents as variants, their numbers, and the names of the statuses by their numbers.
use Rattle.std.specs.Prelude.{ℕ, List, Option, Some, None, nat_eq, codes, if◌then◌else◌}
use Rattle.jsonb_doc.specs.Extension.{Extension, binary, date, timestamp, timestamp_tz, interval}
use Rattle.jsonb_doc.specs.Number.{Variant, int64, uint64, decimal64, decimal128}
use Rattle.jsonb_doc.specs.Tree as tree
use Rattle.jsonb_doc.specs.Tree.{Tree}
use Rattle.jsonb_c.specs.declared.document.kind.Kind.{Kind}
use Rattle.jsonb_c.specs.declared.document.kind.Kind.TheVariants.{Null, Boolean, Integer, Decimal, String, Binary, Date, Timestamp, TimestampTz, Interval, Array, Object}

abbrev pub number_kind : Variant → Kind
number_kind int64 = Integer
number_kind uint64 = Integer
number_kind decimal64 = Decimal
number_kind decimal128 = Decimal

abbrev pub extension_kind : Extension → Kind
extension_kind (binary bytes) = Binary
extension_kind (date value) = Date
extension_kind (timestamp value) = Timestamp
extension_kind (timestamp_tz offset value) = TimestampTz
extension_kind (interval months days micros) = Interval

abbrev pub tree_kind : Tree → Kind
tree_kind tree.null = Null
tree_kind (tree.boolean b) = Boolean
tree_kind (tree.number n) = number_kind n.variant
tree_kind (tree.text s) = String
tree_kind (tree.extension x) = extension_kind x
tree_kind (tree.array ts) = Array
tree_kind (tree.object ps) = Object

abbrev pub kind_number : Kind → ℕ
kind_number Null = 0
kind_number Boolean = 1
kind_number Integer = 2
kind_number Decimal = 3
kind_number String = 4
kind_number Binary = 5
kind_number Date = 6
kind_number Timestamp = 7
kind_number TimestampTz = 8
kind_number Interval = 9
kind_number Array = 10
kind_number Object = 11

abbrev pub status_name : ℕ → Option (List ℕ)
status_name n =
    if nat_eq n 0 then Some (codes "JDOC_OK") else
    if nat_eq n 1 then Some (codes "JDOC_NONE") else
    if nat_eq n 2 then Some (codes "JDOC_BUFFER_TOO_SMALL") else
    if nat_eq n 3 then Some (codes "JDOC_BAD_OFFSETS") else
    if nat_eq n 4 then Some (codes "JDOC_NOT_UTF8") else
    if nat_eq n 5 then Some (codes "JDOC_NO_PATH") else
    if nat_eq n 6 then Some (codes "JDOC_COMPUTED") else
    if nat_eq n 7 then Some (codes "JDOC_OUT_OF_ORDER") else
    if nat_eq n 16 then Some (codes "JDOC_INVALID_JSONB") else
    if nat_eq n 17 then Some (codes "JDOC_UNSUPPORTED_NUMBER") else
    if nat_eq n 18 then Some (codes "JDOC_INVALID_JSON_PATH") else
    if nat_eq n 19 then Some (codes "JDOC_INVALID_KEY_PATH") else
    if nat_eq n 20 then Some (codes "JDOC_INVALID_CAST") else
    if nat_eq n 21 then Some (codes "JDOC_INVALID_OBJECT") else
    if nat_eq n 22 then Some (codes "JDOC_INVALID_JSON_TYPE") else
    if nat_eq n 23 then Some (codes "JDOC_OBJECT_DUPLICATE_KEY") else
    if nat_eq n 24 then Some (codes "JDOC_TOO_LARGE") else
    if nat_eq n 25 then Some (codes "JDOC_TOO_DEEP") else
    if nat_eq n 26 then Some (codes "JDOC_OUT_OF_MEMORY") else
    if nat_eq n 27 then Some (codes "JDOC_STRICT_PATH") else
    if nat_eq n 28 then Some (codes "JDOC_PATH_FAILED") else
    if nat_eq n 29 then Some (codes "JDOC_LIMIT_EXCEEDED") else
    if nat_eq n 48 then Some (codes "JDOC_OVERFLOW") else
    if nat_eq n 49 then Some (codes "JDOC_ZERO_DIVISOR") else
    if nat_eq n 50 then Some (codes "JDOC_INEXACT") else
    if nat_eq n 51 then Some (codes "JDOC_DECIMAL_OPERAND") else
    None
