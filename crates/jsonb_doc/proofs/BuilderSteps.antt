-- What an array's builder holds with one more element; in a loop that pushes, what is held, followed by what is left, is the whole.
use Rattle.jsonb_doc.proofs.Common.{◌≡◌, ℕ, ◌<◌, ◌^◌, List, [], ◌∷◌, ◌++◌, length, arith, append_assoc, append-nil, Tree, array, trees_of, NumberReader, Form, number_reader, IsContent, AreEntries, entry_word, header, array_header, Decodes, HasShortElements, content_size, IsTooLarge, StandsFor, EntryParts, item_content, entry_of, FitsItem, Parts, entry_count, HoldsElements, Item, Bool, inl, inr, subst, ◌∙◌, Result, Ok, Err, cond, filter, MatchResult, ⊤, keys_of, nat_list_cmp_total, IsBelowFirst, AreKeys, IsOutOfMemory, IsOutOfMemoryOrTooLarge, no_parts, Error, HoldsFront}
use Rattle.jsonb_doc.proofs.Entries.{kind_below}
use Rattle.jsonb_doc.proofs.Containers.{length-words}
use Rattle.jsonb_doc.proofs.TreeLists.{count-trees_of}
use Rattle.jsonb_doc.proofs.ItemLemmas.{content_stands}
use Rattle.jsonb_doc.proofs.LimitLemmas.{well_among, array_too_large-more}

-- the builder's entries are as many as the trees that it holds
pub held_count : (form : Form) (parts : Parts) (ts : List Tree) → HoldsElements form parts ts → entry_count parts ≡ length ts
held_count form parts ts h = grind (arith, length-words, count-trees_of)

-- entries with one more after them
AreEntries-added : (number_at : NumberReader) (ts : List Tree) (t : Tree) (ws cs : List ℕ) (kind : ℕ) (content : List ℕ) → length content < 2 ^ 28
    → IsContent number_at t kind content
    → AreEntries number_at (trees_of ts) ws cs → AreEntries number_at (trees_of (ts ++ t ∷ [])) (ws ++ entry_word kind (length content)) (cs ++ content)
AreEntries-added number_at [] t ws cs kind content short part h = grind (arith, kind_below, append-nil)
AreEntries-added number_at (u ∷ us) t ws cs kind content short part e =
    search (arith, AreEntries-added number_at us t e.other_words e.other_contents kind content short part e.others, append_assoc)

-- the parts with one more entry after the others
abbrev pub with_entry : Parts → EntryParts → Parts
with_entry parts entry =
    record { words = parts.words ++ entry_word entry.0 (length entry.1); contents = parts.contents ++ entry.1 }

-- with a stored entry after the others its tree is held
pub stored_held : (form : Form) (before after : Parts) (ts : List Tree) (kind : ℕ) (content : List ℕ) (t : Tree) → HoldsElements form before ts
    → IsContent (number_reader form) t kind content
    → length content < 2 ^ 28 → after ≡ with_entry before (kind, content) → HoldsElements form after (ts ++ t ∷ [])
stored_held form before after ts kind content t h e k f = grind (arith, AreEntries-added)

-- with the entry of an item after the others its tree is held
pub element_held : (form : Form) (before after : Parts) (ts : List Tree) (item : Item) (t : Tree) → HoldsElements form before ts → StandsFor form item t
    → FitsItem item
    → length (item_content item) < 2 ^ 28 → after ≡ with_entry before (entry_of item) → HoldsElements form after (ts ++ t ∷ [])
element_held form before after ts item t h e k f g = grind (arith, stored_held, content_stands)

pub last_is_short : (form : Form) (ts : List Tree) (t : Tree) → HasShortElements form (trees_of (ts ++ t ∷ [])) → content_size form t < 2 ^ 28
last_is_short form ts t h = (well_among form ts [] t h).0

-- the array of what is held
pub array_built : (form : Form) (ts : List Tree) (parts : Parts) (bytes : List ℕ) → HoldsElements form parts ts → entry_count parts < 2 ^ 29
    → bytes ≡ header array_header (entry_count parts) ++ (parts.words ++ parts.contents) → Decodes form bytes (array (trees_of ts))
array_built form ts parts bytes h e k = grind (arith, entry_count, held_count, count-trees_of)

-- a right result, or a failed allocation, is one of a function that builds a document
pub answered : {A : Type 0} (form : Form) (t : Tree) (P : A → Type 0) (r : Result A Error) → MatchResult r P IsOutOfMemory
    → MatchResult r P (IsOutOfMemoryOrTooLarge form t)
answered form t P r h = grind arith

-- ---- arrays

-- at first all is left
pub front_empty : (form : Form) (parts : Parts) (whole : List Tree) → parts ≡ no_parts → HoldsFront form parts whole whole
front_empty form parts whole h = grind arith

-- at last all is held
pub front_whole : (form : Form) (parts : Parts) (whole : List Tree) → HoldsFront form parts [] whole → HoldsElements form parts whole
front_whole form parts whole h = grind (arith, append-nil)

module _ (form : Form) (before : Parts) (t : Tree) (left whole : List Tree) (h : HoldsFront form before (t ∷ left) whole) where
  joined_next : (h.held ++ t ∷ []) ++ left ≡ whole
  joined_next = append_assoc h.held (t ∷ []) left ∙ h.joined

  -- with the next tree after the others the rest is left
  pub front_pushed : (after : Parts) → HoldsElements form after (h.held ++ t ∷ []) → HoldsFront form after left whole
  front_pushed after h = grind (arith, joined_next)

  -- an error of a prefix is one of the whole
  pub front_refused : (e : Error) → IsOutOfMemoryOrTooLarge form (array (trees_of (h.held ++ t ∷ []))) e
      → IsOutOfMemoryOrTooLarge form (array (trees_of whole)) e
  front_refused e (inl memory) = inl memory
  front_refused e (inr (is, large)) =
      inr (is, subst (λ (ts : List Tree). IsTooLarge form (array (trees_of ts))) joined_next (array_too_large-more form (h.held ++ t ∷ []) left large))

  -- what a push of the next tree returns
  pub front_step : {A : Type 0} (after : Parts) (r : Result A Error)
      → ((ts : List Tree) → HoldsElements form before ts
      → MatchResult r (λ _. HoldsElements form after (ts ++ t ∷ [])) (IsOutOfMemoryOrTooLarge form (array (trees_of (ts ++ t ∷ [])))))
      → MatchResult r (λ _. HoldsFront form after left whole) (IsOutOfMemoryOrTooLarge form (array (trees_of whole)))
  front_step after (Ok x) pushed = front_pushed after (pushed h.held h.holds)
  front_step after (Err e) pushed = front_refused e (pushed h.held h.holds)

-- what `build` returns in the end
pub front_built : {A : Type 0} (form : Form) (parts : Parts) (whole : List Tree) (items : A → List ℕ) (r : Result A Error) → HoldsFront form parts [] whole
    → ((ts : List Tree) → HoldsElements form parts ts → MatchResult r (λ v. Decodes form (items v) (array (trees_of ts))) IsOutOfMemory)
    → MatchResult r (λ v. Decodes form (items v) (array (trees_of whole))) (IsOutOfMemoryOrTooLarge form (array (trees_of whole)))
front_built form parts whole items r h e = grind (arith, answered, front_whole)

-- ---- sorted keys

-- each key is below the next
abbrev pub AreRising : List (List ℕ) → Type 0
AreRising [] = ⊤
AreRising (key ∷ ks) = IsBelowFirst key ks × AreRising ks

pub keys_rise : (ks : List (List ℕ)) → AreKeys ks → AreRising ks
keys_rise [] are = tt
keys_rise (key ∷ ks) are = (are.1, keys_rise ks are.2)

-- the keys of some of the pairs are sorted if those of all are
below_kept : {A : Type 0} (low : List ℕ) (test : List ℕ × A → Bool) (ps : List (List ℕ × A)) → IsBelowFirst low (keys_of ps) → AreRising (keys_of ps)
    → IsBelowFirst low (keys_of (filter test ps))
below_kept {A = A} low test [] below rising = tt
below_kept {A = A} low test (p ∷ ps) below rising = go (test p) (below_kept low test ps (lower ps rising.0) rising.1)
  where
    lower : (qs : List (List ℕ × A)) → IsBelowFirst p.0 (keys_of qs) → IsBelowFirst low (keys_of qs)
    lower [] above = tt
    lower (q ∷ qs) above = nat_list_cmp_total.trans low p.0 q.0 below above

    go : (b : Bool) → IsBelowFirst low (keys_of (filter test ps)) → IsBelowFirst low (keys_of (cond b (p ∷ filter test ps) (filter test ps)))
    go b h = grind arith

pub AreRising-filter : {A : Type 0} (test : List ℕ × A → Bool) (ps : List (List ℕ × A)) → AreRising (keys_of ps) → AreRising (keys_of (filter test ps))
AreRising-filter test [] rising = tt
AreRising-filter test (p ∷ ps) rising =
    go (test p) (below_kept p.0 test ps rising.0 rising.1) (AreRising-filter test ps rising.1)
  where
    go : (b : Bool) → IsBelowFirst p.0 (keys_of (filter test ps)) → AreRising (keys_of (filter test ps))
        → AreRising (keys_of (cond b (p ∷ filter test ps) (filter test ps)))
    go b h e = grind arith
