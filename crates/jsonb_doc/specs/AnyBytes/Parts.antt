-- Headers, entry words and entries of any bytes.
use Rattle.std.specs.Prelude.{◌≡◌, ℕ, ◌+◌, ◌*◌, ◌/◌, ◌≤◌, List, [], ◌++◌, length}
use Rattle.jsonb_doc.specs.Format.{object_header, array_header, BeginWith, HeadedBy}

-- Holds if there are no entries.
abbrev pub AreNone : List ℕ → List ℕ → Type 0
AreNone words contents = (words ≡ []) × (contents ≡ [])

-- Holds if the words and contents do not begin with an entry: a word is truncated or of no type, or there are fewer
-- bytes than its length.
abbrev pub BeginWithNone : List ℕ → List ℕ → Type 0
BeginWithNone words contents =
    (kind : ℕ) (content other_words other_contents : List ℕ)
    → BeginWith words contents kind content other_words other_contents → ⊥

-- The number of entry words in these bytes, including a truncated one.
abbrev pub words_left : List ℕ → ℕ
words_left words = (length words + 3) / 4

-- Holds if the bytes are a header of this type, and something after it.
abbrev pub IsHeaded : ℕ → List ℕ → Type 0
IsHeaded kind bytes = (entries : ℕ) × (rest : List ℕ) × HeadedBy bytes kind entries rest

-- Holds if the bytes are a header of this type, and as many entry words after it as it counts, this many for each
-- entry.
abbrev pub HasItsWords : ℕ → ℕ → List ℕ → Type 0
HasItsWords kind word_bytes bytes =
    (entries : ℕ) × (rest : List ℕ) × HeadedBy bytes kind entries rest × (word_bytes * entries ≤ length rest)

-- Holds if the bytes are the header of an array, entry words, one for each element that it counts, and contents.
abbrev pub AreArrayParts : List ℕ → List ℕ → List ℕ → Type 0
AreArrayParts bytes words contents =
    (n : ℕ) × HeadedBy bytes array_header n (words ++ contents) × (length words ≡ 4 * n)

-- Holds if the bytes are the header of an object, entry words of keys and of values, one for each pair that it counts,
-- and contents.
abbrev pub AreObjectParts : List ℕ → List ℕ → List ℕ → List ℕ → Type 0
AreObjectParts bytes key_words value_words contents =
    (n : ℕ) × HeadedBy bytes object_header n ((key_words ++ value_words) ++ contents)
    × (length key_words ≡ 4 * n) × (length value_words ≡ 4 * n)
