-- Which items and which roots contain which, and the starts of the searches.
use Rattle.jsonb_raw.proofs.Common.{◌≡◌, ℕ, Bool, true, false, ◌&&◌, ◌||◌, List, [], ◌∷◌, arith, Option, Some, None, refl, sym, ap, ap₂, ◌∙◌, Ordering, Less, Equal, Greater, ◌≢◌, ◌⊎◌, inl, inr, length, bytes_eq, Bor, length-append, ◌==◌, IfSome, nat_cmp, is_eq, true≢false, nat_tests, option_map_or, slice_cmp, nat_list_cmp_total, list_any, kind_number, Item, Form, number_reader, StandsFor, Stores, HasEntriesLeft, StoredEntry, SameOption, Tree, array, object, Pairs, no_pairs, pair, keys, members, value_under, extension, Trees, no_trees, tree, elements, is_equal, IsBelowFirst, Decodes, key_words, AreRising, pairs_above, is_part_of, each_pair_is_matched, contains, each_is_matched, or_false, below_next, ExtensionValue, Extension, array_document, object_document, length-words, length-key_words, is_json_scalar, Entries, is_container, scalars_matched, AllByRecursion, Fits, Result, Ok, Error, GivesEntry, PassesOver}
use Rattle.jsonb_doc.specs.declared.item.Item.TheVariants as item
use Rattle.jsonb_raw.proofs.PartedRuns.{test_of_order, same_below, no_value}
use Rattle.jsonb_raw.proofs.EntryEquals.{Aside, part_holds}
use Rattle.jsonb_raw.proofs.EntriesLeft.{SomeEntries, SomeEntries-first}

pub order_of_test : (o : Ordering) → is_eq o ≡ true → o ≡ Equal
order_of_test o h = grind arith

module _ (key : List ℕ) (m : Tree → Bool) where
  abbrev passes : List ℕ × Tree → Bool
  passes p = bytes_eq p.0 key && m p.1

  -- if keys are sorted, the pair with the key is the one that is asked
  pub any_by_value : (ps : Pairs) → AreRising (keys ps) → list_any (λ p. bytes_eq p.0 key && m p.1) (members ps) ≡ option_map_or m (value_under key ps) false
  any_by_value no_pairs rising = refl
  any_by_value (pair k t ps) rising = by (bytes_eq k key) refl (any_by_value ps rising.1)
    where
      by : (b : Bool) → bytes_eq k key ≡ b → list_any passes (members ps) ≡ option_map_or m (value_under key ps) false
          → list_any passes (members (pair k t ps)) ≡ option_map_or m (value_under key (pair k t ps)) false
      by true e rest =
          let same = order_of_test (slice_cmp nat_cmp k key) (sym (test_of_order k key (slice_cmp nat_cmp k key) refl) ∙ e) in
          let none = no_value key ps (same_below k key (keys ps) same rising.0) rising.1 in
          rw e (ap (λ b. m t || b) (rest ∙ ap (λ o. option_map_or m o false) none) ∙ or_false (m t))
      by false e rest = rw e rest

  -- pairs with lower keys change nothing
  pub any_above : (low : List ℕ) (ps : Pairs) → slice_cmp nat_cmp low key ≡ Less
      → list_any (λ p. bytes_eq p.0 key && m p.1) (members ps) ≡ list_any (λ p. bytes_eq p.0 key && m p.1) (members (pairs_above low ps))
  any_above low no_pairs below = refl
  any_above low (pair k t ps) below = by (slice_cmp nat_cmp k low) refl (any_above low ps below)
    where
      other : slice_cmp nat_cmp k key ≡ Less → list_any passes (members ps) ≡ list_any passes (members (pairs_above low ps))
          → list_any passes (members (pair k t ps)) ≡ list_any passes (members (pairs_above low ps))
      other less rest = rw (test_of_order k key Less less) rest

      by : (o : Ordering) → slice_cmp nat_cmp k low ≡ o → list_any passes (members ps) ≡ list_any passes (members (pairs_above low ps))
          → list_any passes (members (pair k t ps)) ≡ list_any passes (members (pairs_above low (pair k t ps)))
      by Less e rest = rw e (other (nat_list_cmp_total.trans k low key e below) rest)
      by Equal e rest = rw e (other (nat_list_cmp_total.congr k low key e ∙ below) rest)
      by Greater e rest = rw e (ap (λ b. passes (k, t) || b) rest)

-- what is above the first given key suffices for the given pairs after it
each_above : (low : List ℕ) (qs ps : Pairs) → IsBelowFirst low (keys qs) → AreRising (keys qs)
    → each_pair_is_matched qs (members ps) ≡ each_pair_is_matched qs (members (pairs_above low ps))
each_above low no_pairs ps below rising = refl
each_above low (pair k y qs) ps below rising =
    ap₂ (λ a b. a && b) (any_above k (is_part_of y) low ps below) (each_above low qs ps (below_next low k (keys qs) below rising.0) rising.1)

module _ (key : List ℕ) (y : Tree) (qs ps : Pairs) (rising : AreRising (keys ps)) where
  -- a key that isn't there
  pub unmatched_key : value_under key ps ≡ None → each_pair_is_matched (pair key y qs) (members ps) ≡ false
  unmatched_key none = rw (any_by_value key (is_part_of y) ps rising, none) refl

  -- the value under the key decides with the pairs above
  pub matched_pair : (v : Tree) → value_under key ps ≡ Some v → AreRising (key ∷ keys qs)
      → each_pair_is_matched (pair key y qs) (members ps) ≡ (is_part_of y v && each_pair_is_matched qs (members (pairs_above key ps)))
  matched_pair v some wanted =
      rw (any_by_value key (is_part_of y) ps rising, some) (ap (λ (b : Bool). is_part_of y v && b) (each_above key qs ps wanted.0 wanted.1))

-- ---- entries

-- what the search for a key returns
pub no_entry_found : (form : Form) (o : Option Tree) → SameOption (Stores form) None o → o ≡ None
no_entry_found form o h = grind arith

pub entry_found : (form : Form) (e : StoredEntry) (o : Option Tree) → SameOption (Stores form) (Some e) o → (t : Tree) × (o ≡ Some t) × Stores form e t
entry_found form e o h = grind arith

-- what is not a container matches if it is equal
pub scalar_match : (form : Form) (e : StoredEntry) (y : Tree) → Stores form e y → (kind_number e.kind == 5) ≡ false → (x : Tree) → is_equal x y ≡ is_part_of y x
scalar_match form e y h k x = grind (arith, nat_tests)

pub scalar_matches : (form : Form) (e : StoredEntry) (y : Tree) → Stores form e y → (kind_number e.kind == 5) ≡ false → (xs : List Tree)
    → list_any (λ x. is_equal x y) xs ≡ list_any (is_part_of y) xs
scalar_matches form e y h k [] = refl
scalar_matches form e y h k (x ∷ xs) = ap₂ (λ a b. a || b) (scalar_match form e y h k x) (scalar_matches form e y h k xs)

-- ---- items

pub no_object : (x : Item) (b d : Bor (List ℕ)) → x ≡ item.Array b → x ≡ item.Object d → ⊥
no_object x b d h k = cc

-- items that are not two arrays nor two objects match if they are equal
pub matches_if_equal : (form other_form : Form) (x y : Item) (t u : Tree) → StandsFor form x t → StandsFor other_form y u
    → ((b d : Bor (List ℕ)) → x ≡ item.Array b → y ≡ item.Array d → ⊥)
    → ((b d : Bor (List ℕ)) → x ≡ item.Object b → y ≡ item.Object d → ⊥)
    → is_equal t u ≡ is_part_of u t
matches_if_equal form other_form x y t u h k e f = grind arith

-- ---- which roots contain which

pub contains-extension : (t : Tree) (x : Extension) → contains t (extension x) ≡ false
contains-extension t x = grind arith

-- a container is contained if it is matched
pub contains-array : (t : Tree) (ys : Trees) → contains t (array ys) ≡ is_part_of (array ys) t
contains-array t ys = grind arith

pub contains-object : (t : Tree) (qs : Pairs) → contains t (object qs) ≡ is_part_of (object qs) t
contains-object t qs = grind arith

-- an item that is not an extension and no container
pub plain_item : (form : Form) (y : Item) (u : Tree) → StandsFor form y u → ((x : ExtensionValue) → y ≡ item.Extension x → ⊥)
    → ((b : Bor (List ℕ)) → y ≡ item.Array b → ⊥) → ((b : Bor (List ℕ)) → y ≡ item.Object b → ⊥) → is_json_scalar u ≡ true
plain_item form y u h k e f = grind arith

-- an array contains what one of its elements equals
pub array_contains_plain : (ts : Trees) (u : Tree) → is_json_scalar u ≡ true → list_any (is_part_of u) (elements ts) ≡ contains (array ts) u
array_contains_plain ts u h = grind arith

pub object_equals_no_plain : (ps : Pairs) (u : Tree) → is_json_scalar u ≡ true → is_equal (object ps) u ≡ contains (object ps) u
object_equals_no_plain ps u h = grind arith

pub extension_equals_no_plain : (x : Extension) (u : Tree) → is_json_scalar u ≡ true → is_equal (extension x) u ≡ false
extension_equals_no_plain x u h = grind arith

-- the header alone is that of an empty container
pub array_of_header : (form : Form) (bytes : List ℕ) (ts : Trees) → Decodes form bytes (array ts) → length bytes ≡ 4 → ts ≡ no_trees
array_of_header form bytes no_trees d short = refl
array_of_header form bytes (tree t ts) d short =
    let c = (array_document (number_reader form) (tree t ts) bytes d.document).1 in
    let len = length-words (number_reader form) (tree t ts) c.words c.contents c.parts in
    absurd (omega (arith, short, ap length c.headed.joined, length-append c.words c.contents, len))

pub object_of_header : (form : Form) (bytes : List ℕ) (ps : Pairs) → Decodes form bytes (object ps) → length bytes ≡ 4 → ps ≡ no_pairs
object_of_header form bytes no_pairs d short = refl
object_of_header form bytes (pair key t ps) d short =
    let c = (object_document (number_reader form) (pair key t ps) bytes d.document).1 in
    let words = c.parts.words_joined in
    let len = length-key_words (keys (pair key t ps)) in
    absurd (omega (
      arith,
      short,
      ap length c.headed.joined,
      length-append c.words c.contents,
      ap length words,
      length-append (key_words (keys (pair key t ps))) c.parts.value_words,
      len,
    ))

-- an empty container is contained in each of its type, and contains no other
abbrev pub IsDecidedByLen : List ℕ → List ℕ → Bool → Type 0
IsDecidedByLen bytes others b =
    ((b ≡ true) × (length others ≡ 4)) ⊎ ((b ≡ false) × (length bytes ≡ 4) × (length others ≢ 4))

pub arrays_decided : (form other_form : Form) (bytes others : List ℕ) (xs ys : Trees) (found : Option Bool) → Decodes form bytes (array xs)
    → Decodes other_form others (array ys) → IfSome found (IsDecidedByLen bytes others) → IfSome found (λ b. b ≡ is_part_of (array ys) (array xs))
arrays_decided form other_form bytes others xs ys None d e h = h
arrays_decided form other_form bytes others xs ys (Some b) d e (inl h) = rw (h.0, array_of_header other_form others ys e h.1) refl
arrays_decided form other_form bytes others xs no_trees (Some b) d e (inr h) = absurd (h.2 (grind (arith, array_document, length-append, e)))
arrays_decided form other_form bytes others xs (tree y ys) (Some b) d e (inr h) = rw (h.0, array_of_header form bytes xs d h.1) refl

pub objects_decided : (form other_form : Form) (bytes others : List ℕ) (ps qs : Pairs) (found : Option Bool) → Decodes form bytes (object ps)
    → Decodes other_form others (object qs) → IfSome found (IsDecidedByLen bytes others) → IfSome found (λ b. b ≡ is_part_of (object qs) (object ps))
objects_decided form other_form bytes others ps qs None d e h = h
objects_decided form other_form bytes others ps qs (Some b) d e (inl h) = rw (h.0, object_of_header other_form others qs e h.1) refl
objects_decided form other_form bytes others ps no_pairs (Some b) d e (inr h) = absurd (h.2 (grind (arith, object_document, length-append, e)))
objects_decided form other_form bytes others ps (pair key y qs) (Some b) d e (inr h) = rw (h.0, object_of_header form bytes ps d h.1) refl

-- ---- which of the trees to be found are containers

module _ (form : Form) (e : StoredEntry) (t : Tree) (h : Stores form e t) where
  pub container_told : (kind_number e.kind == 5) ≡ true → is_container t ≡ true
  container_told k = grind arith

  pub scalar_told : (kind_number e.kind == 5) ≡ false → is_container t ≡ false
  scalar_told k = grind arith

-- the entries that are left decide whether each scalar is one of these
abbrev pub DecideScalars : Form → Entries → List Tree → Bool → Type 0
DecideScalars form it xs whole = SomeEntries form it (λ left. AllByRecursion Fits (elements left) × (scalars_matched left xs ≡ whole))

module _ {form : Form} (it it' : Entries) (r : Result StoredEntry Error) (x : StoredEntry) (is : r ≡ Ok x) (gives : GivesEntry it (Some r) it')
    (xs : List Tree) (whole : Bool) (s : DecideScalars form it xs whole) where
  -- so do those after a container
  pub after_container : (kind_number x.kind == 5) ≡ true → DecideScalars form it' xs whole
  after_container k =
      SomeEntries-first form it it' r x _ is gives s
      (λ first rest left stored fact.
      record { trees = rest; left = left; fact = (fact.0.1, rw (container_told form x first stored k) at fact.1) })

  -- and those after what is found
  pub after_found : ((y : Tree) → Fits y → Stores form x y → list_any (is_part_of y) xs ≡ true) → DecideScalars form it' xs whole
  after_found found =
      SomeEntries-first form it it' r x _ is gives s
      (λ first rest left stored fact.
      let there = found first fact.0.0 stored in
      record { trees = rest; left = left; fact = (fact.0.1, grind (arith, fact.1, there)) })

  -- a scalar that is missing decides
  pub at_missing : (kind_number x.kind == 5) ≡ false → ((y : Tree) → Fits y → Stores form x y → list_any (is_part_of y) xs ≡ false) → false ≡ whole
  at_missing scalar missing =
      SomeEntries-first form it it' r x _ is gives s
      (λ first rest left stored fact. rw (scalar_told form x first stored scalar, missing first fact.0.0 stored) at fact.1)

pub passes_both : (all left right : Entries) → PassesOver all left → PassesOver left right → PassesOver all right
passes_both all left right p q = grind arith

-- if one that is not a container is missing, not each element is matched
pub scalars_decide : (ys : Trees) (xs : List Tree) → scalars_matched ys xs ≡ false → each_is_matched ys xs ≡ false
scalars_decide no_trees xs h = absurd (true≢false h)
scalars_decide (tree y ys) xs h = grind (arith, scalars_decide ys xs, h)

pub scalars_left : (y : Tree) (ys : Trees) (xs : List Tree) → scalars_matched (tree y ys) xs ≡ true → scalars_matched ys xs ≡ true
scalars_left y ys xs h = grind (arith, h)

-- an element that is matched leaves the others to match, with the pair that was put aside
pub matched_left : (form : Form) (it : Entries) (Large : Bool → Type 0) (y : Tree) (ys : Trees) (xs : List Tree) (whole : Bool) → HasEntriesLeft form it ys
    → list_any (is_part_of y) xs ≡ true
    → AllByRecursion Fits (elements (tree y ys)) × (scalars_matched (tree y ys) xs ≡ true) × Aside Large (each_is_matched (tree y ys) xs) whole
    → SomeEntries form it (λ left. AllByRecursion Fits (elements left) × (scalars_matched left xs ≡ true) × Aside Large (each_is_matched left xs) whole)
matched_left form it Large y ys xs whole left holds fact = record {
  trees = ys;
  left = left;
  fact = (fact.0.1, scalars_left y ys xs fact.1, part_holds Large (list_any (is_part_of y) xs) (each_is_matched ys xs) whole holds fact.2);
}
