-- Casts of documents to Booleans, integers and strings.
use Rattle.std.specs.Prelude.{◌≡◌, ◌⊎◌, ℕ, Bool, true, false, if◌then◌else◌, List, map, Option, Some, None, ℤ, pos, Result, Err, MatchOption, MatchResult, codes, String, string_bytes}
use Rattle.std.specs.Int.{from_bool}
use Rattle.std.specs.Char.{to_ascii_lowercase}
use Rattle.std.specs.Str.Parse.{IsNumeral, digits_value, signed_digits_value, without_leading_plus, without_leading_sign}
use Rattle.std.specs.declared.alloc.Global.{Global}
use Rattle.jsonb_doc.specs.Tree.{Tree, boolean, number, text}
use Rattle.jsonb_doc.specs.NumberText.{number_text}
use Rattle.jsonb_doc.specs.Rounding.{rounded}
use Rattle.jsonb_doc.specs.Answer.{IsOutOfMemory}
use Rattle.jsonb_doc.specs.declared.error.Error.{Error}
use Rattle.jsonb_doc.specs.declared.error.Error.TheVariants.{InvalidCast}

-- ---- what a tree is cast to

-- A string is a Boolean if it is one of these words, ignoring ASCII case.
abbrev pub IsBoolOf : Tree → Bool → Type 0
IsBoolOf (boolean b) value = value ≡ b
IsBoolOf (text s) true = (map to_ascii_lowercase s ≡ codes "true") ⊎ (map to_ascii_lowercase s ≡ codes "yes")
IsBoolOf (text s) false = (map to_ascii_lowercase s ≡ codes "false") ⊎ (map to_ascii_lowercase s ≡ codes "no")
IsBoolOf _ value = ⊥

-- Holds if the string is an optional sign and one or more digits, and has this value.
abbrev pub IsSignedOf : Tree → ℤ → Type 0
IsSignedOf (boolean b) z = z ≡ pos (from_bool b)
IsSignedOf (number n) z = z ≡ rounded n
IsSignedOf (text s) z = IsNumeral 10 (without_leading_sign s) × (z ≡ signed_digits_value 10 s)
IsSignedOf _ z = ⊥

-- Holds if the string is an optional plus and one or more digits, and has this value.
abbrev pub IsUnsignedOf : Tree → ℕ → Type 0
IsUnsignedOf (text s) n = IsNumeral 10 (without_leading_plus s) × (n ≡ digits_value 10 (without_leading_plus s))
IsUnsignedOf t n = IsSignedOf t (pos n)

abbrev pub text_of : Tree → Option (List ℕ)
text_of (boolean b) = Some (if b then codes "true" else codes "false")
text_of (number n) = Some (number_text n)
text_of (text s) = Some s
text_of _ = None

-- ---- results of casts

-- Holds if the result is a value to which the tree is cast, or `InvalidCast` if there is none.
abbrev pub Casts : {A : Type 0} → (A → Type 0) → Result A Error → Type 0
Casts {A = A} IsValue r = MatchResult r IsValue (λ e. (e ≡ InvalidCast) × ((a : A) → IsValue a → ⊥))

-- Holds if the result is the string, or `InvalidCast` if there is none, unless an allocation failed.
abbrev pub CastsToText : Option (List ℕ) → Result (String Global) Error → Type 0
CastsToText wanted r =
    MatchOption wanted (r ≡ Err InvalidCast) (λ text. MatchResult r (λ s. string_bytes s ≡ text) IsOutOfMemory)
