-- Looking up many names at once among the strings of an array.
use Rattle.std.specs.Prelude.{◌≡◌, ℕ, ◌+◌, ◌-◌, ◌<◌, ◌≤◌, Bool, true, false, List, [], ◌∷◌, length, map, Option, Some, None, IfSome, Result, IsOkAnd, IfOk, slice_index_or, bit_and, ⊤}
use Rattle.std.specs.Borrow.{Bor}
use Rattle.std.specs.Iterator.{Count, IsNearerEnd}
use Rattle.std.specs.List.{list_any, list_all}
use Rattle.std.specs.Str.{bytes_eq}
use Rattle.jsonb_doc.specs.Tree.{text, Trees, no_trees, tree}
use Rattle.jsonb_doc.specs.Payload.{Form}
use Rattle.jsonb_doc.specs.Private.Stored.{HasEntriesLeft}
use Rattle.jsonb_doc.specs.declared.cursor.Entries.{Entries}
use Rattle.jsonb_doc.specs.declared.error.Error.{Error}
use Rattle.jsonb_raw.specs.Objects.{TextSet, is_in}
use Rattle.jsonb_raw.specs.Private.Hashes.{text_hash}
use Rattle.jsonb_raw.specs.declared.functions.path.exists_in.Strings.{Strings}

-- the strings among the trees
abbrev pub texts_of : Trees → List (List ℕ)
texts_of no_trees = []
texts_of (tree (text s) ts) = s ∷ texts_of ts
texts_of (tree t ts) = texts_of ts

-- whether the name is one of the strings
abbrev pub is_one_of : List (List ℕ) → List ℕ → Bool
is_one_of ss name = list_any (λ s. bytes_eq s name) ss

-- whether one of the names is among the strings, if that decides, or otherwise each of them
abbrev pub decided_by : Bool → List (List ℕ) → List (List ℕ) → Bool
decided_by true ss names = list_any (is_one_of ss) names
decided_by false ss names = list_all (is_one_of ss) names

-- the strings among the remaining entries
pub record HasTextsLeft (form : Form) (it : Entries) (ss : List (List ℕ)) : Type 0 where
  pub trees : Trees
  pub left : HasEntriesLeft form it trees
  pub texts : texts_of trees ≡ ss

-- the result is the first of the strings, and the others remain
abbrev pub TakesText : Form → List (List ℕ) → Option (Bor (List ℕ)) → Entries → Type 0
TakesText form [] None after = ⊤
TakesText form (s ∷ ss) (Some given) after = (given.now ≡ s) × HasTextsLeft form after ss
TakesText form _ _ after = ⊥

-- whether the names decide, or those that are left, which decide it
abbrev pub DecideNames : Bool → List (List ℕ) → List (List ℕ) → List (List ℕ) → Option Bool → Type 0
DecideNames found ss names left (Some b) = b ≡ decided_by found ss names
DecideNames found ss names left None = decided_by found ss left ≡ decided_by found ss names

-- the result for a block of names, before which and after which these are left
abbrev pub TellsNames : Bool → Entries → List (List ℕ) → List (List ℕ) → Result (Option Bool) Error → Type 0
TellsNames found entries before after result = (form : Form) (ss : List (List ℕ)) → HasTextsLeft form entries ss
    → IsOkAnd result (DecideNames found ss before after)

-- fewer names are left after a block that does not decide
abbrev pub LeavesFewerNames : {I : Type 0} → (I → Type 0) → (I → Count) → I → I → Result (Option Bool) Error → Type 0
LeavesFewerNames can left before after result = IfOk result (λ told. told ≡ None → IsNearerEnd can left before after)

-- the bytes of names
abbrev pub contents_of : List (Bor (List ℕ)) → List (List ℕ)
contents_of names = map (λ (name : Bor (List ℕ)). name.now) names

-- the result for all of these names
abbrev pub DecidesAll : Bool → Entries → List (Bor (List ℕ)) → Result Bool Error → Type 0
DecidesAll found entries names result = (form : Form) (ss : List (List ℕ)) → HasTextsLeft form entries ss
    → IsOkAnd result (λ b. b ≡ decided_by found ss (contents_of names))

-- the name at this index is the string
abbrev pub IsNameAt : List (Bor (List ℕ)) → ℕ → List ℕ → Type 0
IsNameAt names at s = (at < length names) × (slice_index_or (contents_of names) at [] ≡ s)

-- the first of the places that a string may have
abbrev pub first_place : List ℕ → List ℕ → ℕ
first_place places s = bit_and (text_hash s) (length places - 64 - 1)

-- A place of the string has the index of a name that equals it, and those before it have indices of names.
pub record IsPlaced (names : List (Bor (List ℕ))) (places s : List ℕ) : Type 0 where
  pub place : ℕ
  pub low : first_place places s ≤ place
  pub high : place < first_place places s + 64
  pub name : IsNameAt names (slice_index_or places place 0) s
  pub before : (k : ℕ) → first_place places s ≤ k → k < place → slice_index_or places k 0 < length names

-- each name has a place
abbrev pub ArePlaced : List (Bor (List ℕ)) → List ℕ → Type 0
ArePlaced names places = (at : ℕ) (s : List ℕ) → IsNameAt names at s → IsPlaced names places s

-- each name that was seen is one of the strings
abbrev pub AreSeen : List (List ℕ) → List (Bor (List ℕ)) → List Bool → Type 0
AreSeen ss names seen =
    (at : ℕ) (name : List ℕ) → slice_index_or seen at false ≡ true → IsNameAt names at name → is_one_of ss name ≡ true

-- the table has exactly these strings
abbrev pub HasTexts : TextSet → List (List ℕ) → Type 0
HasTexts table ss = (name : List ℕ) → is_in table name ≡ is_one_of ss name

-- the strings are those among the entries, and those of the table if there is one
pub record AreStrings (form : Form) (strings : Strings) (ss : List (List ℕ)) : Type 0 where
  pub left : HasTextsLeft form strings.entries ss
  pub table : IfSome strings.table (λ table. HasTexts table ss)
