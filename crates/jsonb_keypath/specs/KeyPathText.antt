-- The text of a key path, from which it reads back.
use Rattle.std.specs.Prelude.{◌≡◌, ℕ, ◌<◌, ◌^◌, Bool, true, false, not, ◌&&◌, ◌||◌, ◌==◌, List, [], ◌∷◌, ◌++◌, length, flat_map, codes, if◌then◌else◌}
use Rattle.std.specs.List.{list_all, join_by}
use Rattle.std.specs.Char.{is_ascii_digit, is_ascii_alphanumeric}
use Rattle.std.specs.Str.{is_utf8}
use Rattle.std.specs.Fmt.{signed_decimal}
use Rattle.jsonb_keypath.specs.Tokens.{is_within, is_unescaped, is_quote}
use Rattle.jsonb_keypath.specs.KeyPathGrammar.{Key, index, quoted_name, unquoted_name}

-- Whether the byte is an ASCII letter, an ASCII digit or an underscore.
abbrev pub is_word_byte : ℕ → Bool
is_word_byte b = is_ascii_alphanumeric b || b == 95

-- Whether the name is plain: it has word bytes alone, and the first is not a digit.
abbrev pub is_plain_name : List ℕ → Bool
is_plain_name [] = false
is_plain_name (b ∷ rest) = not (is_ascii_digit b) && list_all is_word_byte (b ∷ rest)

-- The text of a byte between quotes: a backslash precedes a quote and a backslash.
abbrev pub quoted_byte : ℕ → List ℕ
quoted_byte b = if is_unescaped is_quote b then b ∷ [] else codes "\\" ++ b ∷ []

-- The text of a quoted string.
abbrev pub quoted_text : List ℕ → List ℕ
quoted_text text = codes "\"" ++ flat_map quoted_byte text ++ codes "\""

-- The text of a name: unchanged if it is plain, otherwise quoted.
abbrev pub name_text : List ℕ → List ℕ
name_text text = if is_plain_name text then text else quoted_text text

-- The text of a step: an index in decimal, a quoted name between quotes, a name between quotes unless it is plain.
abbrev pub key_text : Key → List ℕ
key_text (index i) = signed_decimal i
key_text (quoted_name text) = quoted_text text
key_text (unquoted_name text) = name_text text

-- The text of a key path: its steps between braces, separated by commas.
abbrev pub key_path_text : List Key → List ℕ
key_path_text keys = codes "{" ++ join_by key_text (codes ",") keys ++ codes "}"

-- The step without its quotes, which locates the same value in every document.
abbrev pub without_quotes : Key → Key
without_quotes (quoted_name text) = unquoted_name text
without_quotes key = key

-- Holds if the step is a 32-bit index, a plain name, or a quoted name without quotes and backslashes.
abbrev pub IsPlainKey : Key → Type 0
IsPlainKey (index i) = is_within (2 ^ 31) i ≡ true
IsPlainKey (quoted_name s) = (0 < length s) × (is_utf8 s ≡ true) × (list_all (is_unescaped is_quote) s ≡ true)
IsPlainKey (unquoted_name text) = is_plain_name text ≡ true
