-- Text that a part is appended to, and characters between quotes.
use Rattle.jsonb_keypath.proofs.Common.{◌≡◌, ℕ, ◌+◌, ◌/◌, ◌<◌, ◌≤◌, List, [], ◌∷◌, ◌++◌, length, get_or, take, map, Bool, true, false, cond, refl, sym, ap, ◌∙◌, arith, ◌==◌, nat_lt, flat_map, encode_utf8, encode_utf8_all, list_all, flat_map_more, map_more, append-nil, flat_map-append, encodes-append, nat_tests, encode, next, is_unescaped, is_quote, quoted_byte}
use Rattle.jsonb_keypath.proofs.ReadBackLemmas.{both}

-- the text of one more element of a list that is seen by `view`
pub text_of_one_more : {X Y : Type 0} (text : Y → List ℕ) (view : X → Y) (xs : List X) (i : ℕ) (d : X) → i < length xs
    → flat_map text (map view (take i xs)) ++ text (view (get_or xs i d)) ≡ flat_map text (map view (take (i + 1) xs))
text_of_one_more text view xs i d h =
    flat_map_more text [] (map view (take i xs)) (view (get_or xs i d)) ∙ ap (flat_map text) (sym (map_more view xs i d h))

-- a string without quotes and backslashes is unchanged between quotes
pub no_escapes : (text : List ℕ) → list_all (is_unescaped is_quote) text ≡ true → flat_map quoted_byte text ≡ text
no_escapes [] h = refl
no_escapes (b ∷ text) h =
    let parts = both (is_unescaped is_quote b) (list_all (is_unescaped is_quote) text) h in
    rw (parts.0, no_escapes text parts.1) refl

quoted_high_byte : (b : ℕ) → 128 ≤ b → quoted_byte b ≡ b ∷ []
quoted_high_byte b h = let other : is_unescaped is_quote b ≡ true = grind (arith, nat_tests) in rw other refl

-- a character that is neither a quote nor a backslash is unchanged
pub quoted_char : (c : ℕ) → (c == 34) ≡ false → (c == 92) ≡ false → flat_map quoted_byte (encode_utf8 c) ≡ encode_utf8 c
unfolding encode
quoted_char c p q = go (nat_lt c 128) (nat_lt c 2048) (nat_lt c 65536) where
  go : (x y z : Bool) → flat_map quoted_byte
      (cond x (c ∷ []) (cond y ((192 + c / 64) ∷ next c ∷ [])
      (cond z ((224 + c / 4096) ∷ next (c / 64) ∷ next c ∷ []) ((240 + c / 262144) ∷ next (c / 4096) ∷ next (c / 64) ∷ next c ∷ []))))
      ≡ cond x (c ∷ []) (cond y ((192 + c / 64) ∷ next c ∷ [])
      (cond z ((224 + c / 4096) ∷ next (c / 64) ∷ next c ∷ []) ((240 + c / 262144) ∷ next (c / 4096) ∷ next (c / 64) ∷ next c ∷ [])))
  go true y z = rw (p, q) refl
  go false true z = rw (quoted_high_byte (192 + c / 64) (omega arith), quoted_high_byte (next c) (omega arith)) refl
  go false false true = rw (
    quoted_high_byte (224 + c / 4096) (omega arith),
    quoted_high_byte (next (c / 64)) (omega arith),
    quoted_high_byte (next c)
        (omega arith),
  ) refl
  go false false false = rw (
    quoted_high_byte (240 + c / 262144) (omega arith),
    quoted_high_byte (next (c / 4096)) (omega arith),
    quoted_high_byte (next (c / 64))
        (omega arith),
    quoted_high_byte (next c) (omega arith),
  ) refl

pub quoted_more : (cs : List ℕ) (c : ℕ)
    → flat_map quoted_byte (encode_utf8_all cs) ++ flat_map quoted_byte (encode_utf8 c) ≡ flat_map quoted_byte (encode_utf8_all (cs ++ c ∷ []))
quoted_more cs c = rw (encodes-append cs (c ∷ []), append-nil (encode_utf8 c), flat_map-append quoted_byte (encode_utf8_all cs) (encode_utf8 c)) refl
