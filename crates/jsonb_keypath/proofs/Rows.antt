-- Rows of key paths, computed from the definitions alone.
use Rattle.jsonb_keypath.proofs.Common.{ℕ, List, [], ◌∷◌, Option, Some, None, refl, codes, pos, negsuc, option_map, digits, is_utf8, chars, encode, Parsed, up_to, repeat, ws, natural, natural_below, sign, integer, integer_within, four_hex_digits, code_unit, unicode_escape, escape, unit, units, text, name, quoted, Key, index, quoted_name, unquoted_name, key, spaced_key, some_keys, no_keys, key_path, key_path_text, AreRows}

-- ---- reading; `unfolding read` opens all that it takes

read : List ℕ → Option (List Key)
unfolding key_path some_keys no_keys spaced_key key name quoted units text unit escape unicode_escape code_unit four_hex_digits natural natural_below sign
    integer integer_within ws repeat up_to is_utf8 chars encode
read input = key_path input

paths_read : AreRows read (
    (codes "{1a}", None)
    ∷ (codes "{", None)
    ∷ (codes "ab", None)
    ∷ (codes "{1,}", None)
    ∷ (codes "{\"a", None)
    ∷ (codes "{a\\u{12}}", None)
    ∷ (codes "{+1}", Some (index (pos 1) ∷ []))
    ∷ (codes "{99999999999}", Some (unquoted_name (codes "99999999999") ∷ []))
    ∷ (codes " { 1, a } ", Some (index (pos 1) ∷ unquoted_name (codes "a") ∷ []))
    ∷ (codes "{\"a b\",-2}", Some (quoted_name (codes "a b") ∷ index (negsuc 1) ∷ []))
    ∷ (codes "{\\u{0061}}", Some (unquoted_name (codes "a") ∷ []))
    ∷ [])
unfolding read
paths_read = refl

-- ---- names

name_at : List ℕ → Parsed (List ℕ)
unfolding name units text unit escape unicode_escape code_unit four_hex_digits repeat up_to is_utf8 chars encode
name_at input = name input

names_read : AreRows name_at (
    (codes "\\ud83d\\u{de00}.", Some (0xF0 ∷ 0x9F ∷ 0x98 ∷ 0x80 ∷ [], codes "."))
    ∷ (codes "\\ud83d", None)
    ∷ [])
unfolding name_at
names_read = refl

-- ---- printing

printed : List ℕ → Option (List ℕ)
unfolding read digits
printed input = option_map key_path_text (read input)

paths_printed : AreRows printed (
    (codes " { 1, a } ", Some (codes "{1,a}"))
    ∷ (codes "{\"a b\",-2}", Some (codes "{\"a b\",-2}"))
    ∷ (codes "{99999999999,+1,\"a b\"}", Some (codes "{\"99999999999\",1,\"a b\"}"))
    ∷ (codes "{\\u0031}", Some (codes "{\"1\"}"))
    ∷ (codes "{007,-0}", Some (codes "{7,0}"))
    ∷ (codes " { } ", Some (codes "{}"))
    ∷ [])
unfolding printed
paths_printed = refl
