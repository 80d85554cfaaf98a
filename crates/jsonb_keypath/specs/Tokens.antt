-- The tokens that key paths and JSON paths share.
use Rattle.std.specs.Prelude.{ℕ, ◌+◌, ◌*◌, ◌^◌, Bool, true, false, not, ◌&&◌, ◌==◌, nat_lt, List, [], ◌∷◌, ◌++◌, drop, take_while, Option, Some, None, option_map, ℤ, pos, negsuc, codes, if◌then◌else◌, encode_utf8}
use Rattle.std.specs.List.{list_any, prefix_len, concat}
use Rattle.std.specs.Char.{is_ascii_digit, digit_value}
use Rattle.std.specs.Char.Utf16.{is_high_surrogate, is_low_surrogate, surrogate_pair_char}
use Rattle.std.specs.Str.{is_utf8}
use Rattle.std.specs.Str.Parse.{digits_value}
use Rattle.jsonb_doc.specs.Rounding.{with_sign}
use Rattle.jsonb_keypath.specs.Rules.{Rule, give, ◌>>=◌, ◌>>◌, ◌</>◌, only_if, literal, repeat}

-- ---- white space and numbers

-- Whether the byte is a space, a tab, a line feed or a carriage return.
abbrev pub is_space : ℕ → Bool
is_space b = list_any (λ c. c == b) (32 ∷ 9 ∷ 10 ∷ 13 ∷ [])

-- The input after the longest prefix of bytes that satisfy the test.
abbrev pub past : (ℕ → Bool) → List ℕ → List ℕ
past test input = drop (prefix_len test input) input

-- Reads a run of white space, possibly empty.
unfoldable pub ws : Rule (Unit {0})
ws input = Some (tt, past is_space input)

-- Reads the longest run of one or more digits, as a number.
unfoldable pub natural : Rule ℕ
natural input =
    if nat_lt 0 (prefix_len is_ascii_digit input)
    then Some (digits_value 10 (take_while is_ascii_digit input), past is_ascii_digit input) else None

-- Reads a natural number, and fails unless it is below the bound.
unfoldable pub natural_below : ℕ → Rule ℕ
natural_below bound = do n ← natural; only_if (nat_lt n bound); give n

abbrev pub nat8 : Rule ℕ
nat8 = natural_below (2 ^ 8)

-- Reads a minus, a plus or no sign. The value is `true` for a minus.
unfoldable pub sign : Rule Bool
sign = (literal "-" >> give true) </> (literal "+" >> give false) </> give false

-- Reads a number with or without a sign.
unfoldable pub integer : Rule ℤ
integer = do negative ← sign; n ← natural; give (with_sign negative n)

-- Whether the integer is at least minus the bound, and below the bound.
abbrev pub is_within : ℕ → ℤ → Bool
is_within bound (pos n) = nat_lt n bound
is_within bound (negsuc n) = nat_lt n bound

unfoldable pub integer_within : ℕ → Rule ℤ
integer_within bound = do z ← integer; only_if (is_within bound z); give z

abbrev pub int32 : Rule ℤ
int32 = integer_within (2 ^ 31)

-- ---- escapes

-- The byte that an escape of this byte denotes: itself, or for `b`, `f`, `n`, `r` and `t` a control character.
abbrev pub escaped : ℕ → Option ℕ
escaped b =
    if list_any (λ c. c == b) (codes "\"\\/") then Some b
    else if b == 98 then Some 8 else if b == 102 then Some 12 else if b == 110 then Some 10
    else if b == 114 then Some 13 else if b == 116 then Some 9 else None

-- Reads one byte that has a value.
abbrev pub byte_as : {A : Type 0} → (ℕ → Option A) → Rule A
byte_as value [] = None
byte_as value (b ∷ rest) = option_map (λ a. (a, rest)) (value b)

abbrev pub hex_digit : Rule ℕ
hex_digit = byte_as (λ b. if nat_lt (digit_value b) 16 then Some (digit_value b) else None)

-- Reads four hexadecimal digits.
unfoldable pub four_hex_digits : Rule ℕ
four_hex_digits = do a ← hex_digit; b ← hex_digit; c ← hex_digit; d ← hex_digit; give (((a * 16 + b) * 16 + c) * 16 + d)

-- Reads a UTF-16 code unit: four hexadecimal digits after `\u`, in braces or without.
unfoldable pub code_unit : Rule ℕ
code_unit = literal "\\u" >> ((do literal "{"; n ← four_hex_digits; literal "}"; give n) </> four_hex_digits)

-- Reads a character by its code units. A high surrogate and a low one after it are one character; any other surrogate
-- fails.
unfoldable pub unicode_escape : Rule ℕ
unicode_escape = do
  n ← code_unit
  if is_high_surrogate n then (do low ← code_unit; only_if (is_low_surrogate low); give (surrogate_pair_char n low))
      else (do only_if (not (is_low_surrogate n)); give n)

-- Reads an escape, as the character that it denotes.
unfoldable pub escape : Rule ℕ
escape = (literal "\\" >> byte_as escaped) </> unicode_escape

-- ---- names and quoted strings

-- Whether the byte denotes itself: it is neither a backslash nor excluded.
abbrev pub is_unescaped : (ℕ → Bool) → ℕ → Bool
is_unescaped is_excluded b = not (b == 92) && not (is_excluded b)

-- Reads a unit, as the bytes that it denotes: an escape, or a byte that denotes itself.
unfoldable pub unit : (ℕ → Bool) → Rule (List ℕ)
unit is_excluded =
    (escape >>= λ c. give (encode_utf8 c))
    </> byte_as (λ b. if is_unescaped is_excluded b then Some (b ∷ []) else None)

-- Reads the longest run of one or more units, as the bytes that it denotes.
unfoldable pub units : (ℕ → Bool) → Rule (List ℕ)
units is_excluded = do first ← unit is_excluded; others ← repeat (unit is_excluded); give (first ++ concat others)

-- Reads the longest run of one or more units, and fails unless its bytes are UTF-8.
unfoldable pub text : (ℕ → Bool) → Rule (List ℕ)
text is_excluded = do found ← units is_excluded; only_if (is_utf8 found); give found

-- Whether the byte ends a name.
abbrev pub is_stop : ℕ → Bool
is_stop b = list_any (λ c. c == b) (codes " ,.:{}[]()?@$|<>!=+-*/%\"'")

abbrev pub is_quote : ℕ → Bool
is_quote b = b == 34

-- Reads nothing, and fails unless the input is empty or its first byte satisfies the test.
abbrev pub ahead : (ℕ → Bool) → Rule (Unit {0})
ahead test [] = Some (tt, [])
ahead test (b ∷ rest) = if test b then Some (tt, b ∷ rest) else None

-- Reads a name: units up to the end of the input or a stop byte.
unfoldable pub name : Rule (List ℕ)
name = do found ← text is_stop; ahead is_stop; give found

-- Reads units between quotes.
unfoldable pub quoted : Rule (List ℕ)
quoted = do literal "\""; found ← text is_quote; literal "\""; give found
