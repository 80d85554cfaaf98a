-- Hashes of trees. Trees that are equal by value have one hash.
use Rattle.std.specs.Prelude.{◌≡◌, ℕ, suc, ◌+◌, ◌-◌, ◌*◌, ◌/◌, ◌%◌, ◌^◌, ◌≤◌, ℤ, pos, negsuc, ◌*ℤ◌, true, false, List, length, slice_index_or, bit_and, bit_or}
use Rattle.std.specs.Hash.FoldHasher.{initial, write}
use Rattle.jsonb_doc.specs.Tree.{Tree, null, boolean, number, text, extension, array, object, Trees, no_trees, tree, values}

-- the digits of a number, spread to the highest ones
abbrev pub mixed : ℕ → ℕ
mixed n = n * 11400714819323198485 % 2 ^ 64

-- of a whole value
abbrev pub value_hash : ℤ → ℕ
value_hash (pos a) = mixed (a % 2 ^ 64)
value_hash (negsuc a) = mixed ((suc a % 2 ^ 64 + 1) % 2 ^ 64)

-- of a string
unfoldable pub text_hash : List ℕ → ℕ
text_hash s = (write initial s).state

-- The hash of a tree in a container. A number with more than nine decimals has none; all arrays and objects have one.
abbrev pub IsPartHash : Tree → ℕ → Type 0
IsPartHash null m = m ≡ mixed 2
IsPartHash (boolean true) m = m ≡ mixed 4
IsPartHash (boolean false) m = m ≡ mixed 3
IsPartHash (number n) m = (n.scale ≤ 9) × (m ≡ value_hash (n.whole *ℤ pos (10 ^ (9 - n.scale))))
IsPartHash (text s) m = m ≡ text_hash s
IsPartHash (extension x) m = m ≡ mixed 6
IsPartHash (array ts) m = m ≡ mixed 5
IsPartHash (object ps) m = m ≡ mixed 5

-- the hash of the trees, if those before them have this one
abbrev pub AreHashed : Trees → ℕ → ℕ → Type 0
AreHashed no_trees before m = m ≡ before
AreHashed (tree t ts) before m = (k : ℕ) × IsPartHash t k × AreHashed ts ((mixed before + k) % 2 ^ 64) m

-- The hash of a tree: of an array that of its elements, of an object that of its values.
abbrev pub IsHashOf : Tree → ℕ → Type 0
IsHashOf (array ts) m = AreHashed ts 5 m
IsHashOf (object ps) m = AreHashed (values ps) 5 m
IsHashOf t m = IsPartHash t m

-- the index of the word that has the bits of a hash, among this many
abbrev pub hash_word : ℕ → ℕ → ℕ
hash_word count m = bit_and (m / 2 ^ 52) (count - 1)

-- the bit of a word that the bits of a hash from this one on choose
unfoldable pub hash_bit : ℕ → ℕ → ℕ
hash_bit m at = 1 * 2 ^ (m / 2 ^ at % 64) % 2 ^ 64

-- the bits of a hash in its word, without the first one
unfoldable pub other_bits : ℕ → ℕ
other_bits m = bit_or (bit_or (bit_or (hash_bit m 40) (hash_bit m 34)) (hash_bit m 28)) (hash_bit m 22)

-- the word of the hash has its bits
abbrev pub HasBits : List ℕ → ℕ → Type 0
HasBits words m =
    let word : ℕ = slice_index_or words (hash_word (length words) m) 0 in
    (bit_and word (hash_bit m 46) ≡ hash_bit m 46) × (bit_and word (other_bits m) ≡ other_bits m)

-- the hash of the tree, if it has one, is in the set of these words
pub record IsIn (words : List ℕ) (t : Tree) : Type 0 where
  pub bits : (m : ℕ) → IsHashOf t m → HasBits words m
