-- The sortable key of a tree: bytes whose order is the order of the trees.
use Rattle.std.specs.Prelude.{ℕ, zero, suc, ◌+◌, ◌-◌, ◌^◌, ◌<◌, ◌≤◌, ◌==◌, ◌≡◌, ◌⊎◌, if◌then◌else◌, List, [], ◌∷◌, ◌++◌, map, length, ℤ, pos, negsuc}
use Rattle.std.specs.Int.{Width, to_be_bytes, byte_len, w16}
use Rattle.std.specs.Int.Digits.{digits_of}
use Rattle.std.specs.List.{list_all}
use Rattle.jsonb_doc.specs.Tree.{Tree, Trees, Pairs}
use Rattle.jsonb_doc.specs.Depth.{deepest}
use Rattle.jsonb_doc.specs.Limits.{IsInRange}
use Rattle.jsonb_doc.specs.Order.{rank}
use Rattle.jsonb_doc.specs.Payload.{extension_payload}
use Rattle.jsonb_raw.specs.NoExtension.{HasNoExtension}

-- The digits up to the last that is not 0.
abbrev pub significant : List ℕ → List ℕ
significant [] = []
significant (c ∷ cs) = if list_all (λ d. d == 0) (c ∷ cs) then [] else c ∷ significant cs

-- The bytes of the number n / 10 ^ scale above 0, which is 0.c1..ck times ten to the E, with c1 and ck not 0: E + 1000
-- in two bytes, each digit plus 1, and an end marker. E is the number of n's digits minus the scale.
unfoldable pub magnitude_bytes : ℕ → ℕ → List ℕ
magnitude_bytes n scale =
    to_be_bytes w16 (length (digits_of 10 n) + 1000 - scale) ++ (map suc (significant (digits_of 10 n)) ++ 0 ∷ [])

-- The bytes of a number. A negative one has the complement of each byte, so that a greater magnitude is below.
abbrev pub number_bytes : ℤ → ℕ → List ℕ
number_bytes (pos zero) scale = 0x80 ∷ []
number_bytes (pos (suc n)) scale = 0x81 ∷ magnitude_bytes (suc n) scale
number_bytes (negsuc n) scale = 0x7f ∷ map (λ b. 255 - b) (magnitude_bytes (suc n) scale)

-- The bytes of an escaped byte. The bytes 0 and 1 are escaped, because the byte 0 ends a string.
abbrev pub escaped_byte : ℕ → List ℕ
escaped_byte zero = 1 ∷ 1 ∷ []
escaped_byte (suc zero) = 1 ∷ 2 ∷ []
escaped_byte (suc (suc b)) = suc (suc b) ∷ []

abbrev pub text_bytes : List ℕ → List ℕ
text_bytes [] = 0 ∷ []
text_bytes (b ∷ bs) = escaped_byte b ++ text_bytes bs

-- An item at a depth: the depth in the width's bytes, its type and its content.
abbrev pub item_bytes : Width → ℕ → ℕ → List ℕ → List ℕ
item_bytes w depth kind content = to_be_bytes w depth ++ kind ∷ content

abbrev mutual
  pub sortable_key : Width → Tree → ℕ → List ℕ
  sortable_key w (Tree.number n) d = item_bytes w d (rank (Tree.number n)) (number_bytes n.whole n.scale)
  sortable_key w (Tree.text bytes) d = item_bytes w d (rank (Tree.text bytes)) (text_bytes bytes)
  sortable_key w (Tree.extension x) d = item_bytes w d (rank (Tree.extension x)) (extension_payload x ++ 0 ∷ [])
  sortable_key w (Tree.array ts) d = item_bytes w d (rank (Tree.array ts)) (keys_of_trees w ts (suc d))
  sortable_key w (Tree.object ps) d = item_bytes w d (rank (Tree.object ps)) (keys_of_pairs w ps (suc d))
  sortable_key w t d = item_bytes w d (rank t) []

  pub keys_of_trees : Width → Trees → ℕ → List ℕ
  keys_of_trees w Trees.no_trees d = []
  keys_of_trees w (Trees.tree t ts) d = sortable_key w t d ++ keys_of_trees w ts d

  pub keys_of_pairs : Width → Pairs → ℕ → List ℕ
  keys_of_pairs w Pairs.no_pairs d = []
  keys_of_pairs w (Pairs.pair k v ps) d =
      item_bytes w d (rank (Tree.text k)) (text_bytes k) ++ (sortable_key w v d ++ keys_of_pairs w ps d)

-- The number of depths that the width's bytes distinguish.
abbrev pub depths : Width → ℕ
depths w = 256 ^ byte_len w

-- Holds if a tree at a depth has a key in the width, whose order is specified.
abbrev pub HasKey : Width → Tree → ℕ → Type 0
HasKey w t depth = IsInRange t × HasNoExtension t × (depth + deepest t < depths w)

-- Holds if the bytes may follow the key of an item at a depth: nothing, or an item that is no deeper.
abbrev pub IsRest : Width → ℕ → List ℕ → Type 0
IsRest w d r = (r ≡ []) ⊎ ((e : ℕ) × (x : List ℕ) × (e ≤ d) × (r ≡ to_be_bytes w e ++ x))
