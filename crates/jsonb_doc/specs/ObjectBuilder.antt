-- What an object's builder holds, and the bytes that it builds.
use Rattle.std.specs.Prelude.{◌≡◌, ◌⊎◌, ℕ, ◌+◌, ◌^◌, ◌≤◌, Bool, List, [], ◌∷◌, length, Result}
use Rattle.std.specs.List.{list_any, AllZip}
use Rattle.std.specs.Ordering.{nat_cmp, match_ordering}
use Rattle.std.specs.Cmp.Lexicographic.{slice_cmp}
use Rattle.std.specs.Str.{bytes_eq}
use Rattle.jsonb_doc.specs.declared.error.Error.{Error}
use Rattle.jsonb_doc.specs.Tree.{Tree, object, pairs_of}
use Rattle.jsonb_doc.specs.Limits.{Builds}
use Rattle.jsonb_doc.specs.Payload.{Form, number_reader}
use Rattle.jsonb_doc.specs.Format.{IsContent}
use Rattle.jsonb_doc.specs.Encoding.{EntryParts, IsTooLong, item_content}
use Rattle.jsonb_doc.specs.declared.item.Item.{Item}

-- ---- pairs by their keys

-- Whether the key exists.
abbrev pub has_key : {A : Type 0} → List ℕ → List (List ℕ × A) → Bool
has_key key ps = list_any (λ p. bytes_eq key p.0) ps

-- The pairs with one more, in the byte order of the keys. A pair with the same key gets the value.
abbrev pub insert_pair : {A : Type 0} → List ℕ → A → List (List ℕ × A) → List (List ℕ × A)
insert_pair key x [] = (key, x) ∷ []
insert_pair key x (p ∷ ps) =
    match_ordering (slice_cmp nat_cmp key p.0) ((key, x) ∷ p ∷ ps) ((p.0, x) ∷ ps) (p ∷ insert_pair key x ps)

-- ---- entries

-- Holds if the builder holds the pairs, in the order of their keys: each key with the kind and content of an entry of
-- its tree.
abbrev pub HoldsPairs : Form → List (List ℕ × EntryParts) → List (List ℕ × Tree) → Type 0
HoldsPairs form es ps = AllZip (λ e p. (e.0 ≡ p.0) × IsContent (number_reader form) p.1 e.1.0 e.1.1) es ps

-- Holds if the builder then holds these pairs, or an allocation failed, or the object is too large.
abbrev pub PushesPair : Form → List (List ℕ × Tree) → Result (Unit {0}) Error → List (List ℕ × EntryParts) → Type 0
PushesPair form ps answer after = Builds form (object (pairs_of ps)) answer (λ _. HoldsPairs form after ps)

-- Holds if one more member of the key and the item exceeds the limits.
abbrev pub IsTooLargePair : List (List ℕ × EntryParts) → List ℕ → Item → Type 0
IsTooLargePair es key item = IsTooLong key ⊎ (IsTooLong (item_content item) ⊎ (2 ^ 29 ≤ length es + 1))
