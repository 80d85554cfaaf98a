-- Short strings in which no byte has to be escaped, as words.
use Rattle.std.specs.Prelude.{◌≡◌, ◌≤◌, ◌+◌, ◌*◌, ◌-◌, ◌++◌, ℕ, List, [], ◌∷◌, Bool, true, ◌&&◌, length, take, drop, nat_lt}
use Rattle.std.specs.Int.{to_le_bytes, w64}
use Rattle.std.specs.List.{list_all}

-- no byte has to be escaped
abbrev pub is_plain_text : List ℕ → Bool
is_plain_text text = list_all (λ b. nat_lt 1 b) text

-- a byte of ASCII that does not have to be escaped
abbrev pub is_plain_ascii : ℕ → Bool
is_plain_ascii b = nat_lt 1 b && nat_lt b 128

-- the first n bytes of a string and its last n, which together are all of it, and none has to be escaped
pub record ArePlainEnds (n : ℕ) (text first last : List ℕ) : Type 0 where
  pub long : n ≤ length text
  pub few : length text ≤ 2 * n
  pub front : first ≡ take n text
  pub back : last ≡ drop (length text - n) text
  pub plain : is_plain_text text ≡ true

-- a word whose lowest bytes are those of a string, and no byte of them has to be escaped
pub record IsPlainWord (text : List ℕ) (word : ℕ) : Type 0 where
  pub few : length text ≤ 8
  pub plain : is_plain_text text ≡ true
  pub bytes : take (length text + 1) (to_le_bytes w64 word ++ to_le_bytes w64 0) ≡ text ++ 0 ∷ []
