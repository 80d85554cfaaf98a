-- Types and lengths in entry words, contents that are skipped by their lengths, and searches for a name among keys.
use Rattle.std.specs.Prelude.{◌≡◌, ◌≢◌, ℕ, ◌%◌, ◌^◌, ◌<◌, List, map, sum, [], ◌∷◌, ◌++◌, length, drop, Option, Some, None, ⊤}
use Rattle.std.specs.Borrow.{Bor}
use Rattle.std.specs.Int.{w32, from_be_bytes}
use Rattle.std.specs.Simd.{first_chunks}
use Rattle.std.specs.Ordering.{nat_cmp}
use Rattle.std.specs.Cmp.Lexicographic.{slice_cmp}
use Rattle.std.specs.declared.cmp.Ordering.TheVariants.{Less}
use Rattle.jsonb_doc.specs.Format.{HasFirstEntry, entry_word, AreKeys, IsBelowFirst, key_words, key_bytes}
use Rattle.jsonb_doc.specs.declared.key_search.KeyPosition.{KeyPosition}
use Rattle.jsonb_doc.specs.declared.key_search.KeyPosition.TheVariants.{Found, Missing}

-- if this is the word of an entry, the entry has this kind, and a content of this length
abbrev pub HasEntryWordFields : List ℕ → ℕ → ℕ → Type 0
HasEntryWordFields word kind len =
    (k l : ℕ) → k < 8 → l < 2 ^ 28 → word ≡ entry_word k l → (kind ≡ k) × (len ≡ l)

-- the sum of the lengths in the first of these words
abbrev pub lengths_of : ℕ → List ℕ → ℕ
lengths_of count words = sum (map (λ word. from_be_bytes w32 word % 2 ^ 28) (first_chunks 4 count words))

-- the words are those of these contents, which precede the rest
abbrev pub StandBefore : List (List ℕ) → List ℕ → List ℕ → List ℕ → Type 0
StandBefore [] words contents rest = (words ≡ []) × (contents ≡ rest)
StandBefore (part ∷ parts) words contents rest =
    HasFirstEntry (λ kind content. content ≡ part)
    (λ other_words other_contents. StandBefore parts other_words other_contents rest) words contents

-- ---- keys

-- the words and the bytes are those of these keys, and the rest follows them
pub record HoldKeys (ks : List (List ℕ)) (words bytes rest : List ℕ) : Type 0 where
  pub are_keys : AreKeys ks
  pub words_joined : words ≡ key_words ks
  pub bytes_joined : bytes ≡ key_bytes ks ++ rest

-- the name is none of these keys
abbrev pub IsNoneOf : List ℕ → List (List ℕ) → Type 0
IsNoneOf name [] = ⊤
IsNoneOf name (key ∷ ks) = (key ≢ name) × IsNoneOf name ks

-- the name is the first of its kind after these keys, and the words and the bytes are those of the keys after it
pub record FoundKey (name : List ℕ) (ks : List (List ℕ)) (rest words bytes : List ℕ) : Type 0 where
  pub front : List (List ℕ)
  pub back : List (List ℕ)
  pub joined : ks ≡ front ++ name ∷ back
  pub first : IsNoneOf name front
  pub behind : HoldKeys back words bytes rest

-- the result of a search for the name among these keys
abbrev pub FindsKey : List ℕ → List (List ℕ) → List ℕ → Option (Bor (List ℕ) × Bor (List ℕ)) → Type 0
FindsKey name ks rest None = IsNoneOf name ks
FindsKey name ks rest (Some r) = FoundKey name ks rest r.0.now r.1.now

-- each of these keys is below the name
abbrev pub AreBelow : List ℕ → List (List ℕ) → Type 0
AreBelow name [] = ⊤
AreBelow name (key ∷ ks) = (slice_cmp nat_cmp key name ≡ Less) × AreBelow name ks

-- The words and the bytes are those of the last of these keys. This holds of those before them.
pub record KeysLeft (P : List (List ℕ) → Type 0) (ks : List (List ℕ)) (rest words bytes : List ℕ) : Type 0 where
  pub front : List (List ℕ)
  pub back : List (List ℕ)
  pub joined : ks ≡ front ++ back
  pub first : P front
  pub behind : HoldKeys back words bytes rest

-- Holds if the key at this position is the name, or, if it is missing, would be inserted there.
abbrev pub IsKeyPosition : List ℕ → List (List ℕ) → KeyPosition → Type 0
IsKeyPosition name ks (Found at) =
    (front : List (List ℕ)) × (back : List (List ℕ))
    × (at ≡ length front) × (ks ≡ front ++ name ∷ back) × AreBelow name front
IsKeyPosition name ks (Missing at) =
    (front : List (List ℕ)) × (back : List (List ℕ))
    × (at ≡ length front) × (ks ≡ front ++ back) × AreBelow name front × IsBelowFirst name back

-- Holds if this is the position of the first key that is the name, or `None` and there is none.
abbrev pub IsFoundAt : List ℕ → List (List ℕ) → Option ℕ → Type 0
IsFoundAt name ks None = IsNoneOf name ks
IsFoundAt name ks (Some at) =
    (front : List (List ℕ)) × (back : List (List ℕ))
    × (at ≡ length front) × (ks ≡ front ++ name ∷ back) × IsNoneOf name front

-- ---- blocks of keys

-- The result of a step past a block of this many keys: the keys after it, which follow keys below the name, or `None`
-- if the name is none of the keys after it.
abbrev pub SkipsBlock : ℕ → List ℕ → List (List ℕ) → List ℕ → Option (Bor (List ℕ) × Bor (List ℕ)) → Type 0
SkipsBlock count name ks rest None = IsNoneOf name (drop count ks)
SkipsBlock count name ks rest (Some r) = KeysLeft (AreBelow name) ks rest r.0.now r.1.now

-- The words and the bytes are those of the last of these keys. The name can only be one of this many of them, and those
-- before them are below it.
pub record IsBlockOf (count : ℕ) (name : List ℕ) (ks : List (List ℕ)) (rest words bytes : List ℕ) : Type 0 where
  pub left : KeysLeft (AreBelow name) ks rest words bytes
  pub others : IsNoneOf name (drop count left.back)
