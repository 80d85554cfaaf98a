-- The types of trees, and the values of scalars.
use Rattle.std.specs.Prelude.{◌≡◌, ◌||◌, ℕ, Bool, true, false, not, if◌then◌else◌, List, Option, Some, None, ℤ, is_some, IsSomeAnd, MatchOption, codes}
use Rattle.std.specs.declared.alloc.Global.{Global}
use Rattle.std.specs.declared.borrow.CowStr.{CowStr}
use Rattle.std.specs.declared.borrow.CowStr.TheVariants.{Borrowed, Owned}
use Rattle.jsonb_doc.specs.Number.{Number}
use Rattle.jsonb_doc.specs.Arithmetic.{is_decimal}
use Rattle.jsonb_doc.specs.Extension.{binary, date, timestamp, timestamp_tz, interval}
use Rattle.jsonb_doc.specs.Tree.{Tree, null, boolean, number, text, extension, array, object, trees_in, pairs_in}
use Rattle.jsonb_doc.specs.Rounding.{IsWhole}

-- ---- the part of a scalar

abbrev pub boolean_in : Tree → Option Bool
boolean_in (boolean b) = Some b
boolean_in _ = None

abbrev pub number_in : Tree → Option Number
number_in (number n) = Some n
number_in _ = None

abbrev pub text_in : Tree → Option (List ℕ)
text_in (text s) = Some s
text_in _ = None

-- ---- types. A tree is a Boolean, a number or a string if and only if it has that part.

abbrev pub is_null : Tree → Bool
is_null null = true
is_null _ = false

abbrev pub is_array : Tree → Bool
is_array t = is_some (trees_in t)

abbrev pub is_object : Tree → Bool
is_object t = is_some (pairs_in t)

abbrev pub is_extension_value : Tree → Bool
is_extension_value (extension x) = true
is_extension_value _ = false

-- The name of a tree's type. Each zero is the unsigned one, and so an integer.
abbrev pub type_name : Tree → List ℕ
type_name null = codes "NULL_VALUE"
type_name (boolean b) = codes "BOOLEAN"
type_name (number n) = if is_decimal n.variant then codes "DECIMAL" else codes "INTEGER"
type_name (text s) = codes "STRING"
type_name (extension (binary bytes)) = codes "BINARY"
type_name (extension (date value)) = codes "DATE"
type_name (extension (timestamp value)) = codes "TIMESTAMP"
type_name (extension (timestamp_tz offset value)) = codes "TIMESTAMP_TZ"
type_name (extension (interval months days micros)) = codes "INTERVAL"
type_name (array ts) = codes "ARRAY"
type_name (object ps) = codes "OBJECT"

-- ---- results

-- Holds if what is found satisfies the condition, or nothing does.
abbrev pub FindsAny : {A : Type 0} → (A → Type 0) → Option A → Type 0
FindsAny {A} IsWanted found = MatchOption found ((x : A) → IsWanted x → ⊥) IsWanted

-- Holds if the string is borrowed, and is this one.
abbrev pub BorrowsText : CowStr Global → List ℕ → Type 0
BorrowsText (Borrowed s) wanted = s.now ≡ wanted
BorrowsText (Owned s) wanted = ⊥

-- Holds if the tree is a number that is this integer.
abbrev pub IsWholeNumber : Tree → ℤ → Type 0
IsWholeNumber t z = IsSomeAnd (number_in t) (λ n. IsWhole n z)

-- Whether the tree is null, a Boolean, a number or a string.
abbrev pub is_json_scalar : Tree → Bool
is_json_scalar t = not (is_array t || is_object t || is_extension_value t)
