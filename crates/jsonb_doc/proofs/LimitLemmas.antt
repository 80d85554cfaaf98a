-- How long the contents of trees are, and which trees exceed the limits if a child or a prefix of them does; keys of documents.
use Rattle.jsonb_doc.proofs.Common.{◌≡◌, ℕ, ◌+◌, ◌*◌, ◌≤◌, List, [], ◌∷◌, length, refl, ap, ◌∙◌, arith, Some, None, inl, inr, true, ℤ, pos, Bool, ◌⊎◌, ◌==◌, if◌then◌else◌, slice_index, w64, w128, big_number, length-append, nat_tests, then_some, Variant, int64, uint64, decimal64, decimal128, number_from, zero_number, Extension, Tree, number, array, object, Trees, no_trees, tree, Pairs, no_pairs, pair, count, keys, Form, any, canonical, NumberReader, number_reader, is_width, signed, fixed, number_of, array_header, object_header, BeginWith, IsContainer, AreMembers, IsContent, AreEntries, AreValues, key_bytes, content, words, contents, value_words, value_contents, widest_number, content_size, elements_size, values_size, ◌++◌, members, trees_of, AreKeys, Decodes, keys_of, HasShortElements, IsTooLarge, IsShort, HasShortParts}
use Rattle.jsonb_doc.proofs.ScalarLemmas.{some_injective}
use Rattle.jsonb_doc.specs.Number.{Number}
use Rattle.jsonb_doc.proofs.Entries.{canonical_payload}
use Rattle.jsonb_doc.proofs.Containers.{length-words, entries_of, count-values, length-key_words, object_document}
use Rattle.jsonb_doc.proofs.TreeLists.{keys_of-members}

only : {A : Type 0} (b : Bool) (x n : A) → then_some b x ≡ Some n → (b ≡ true) × (x ≡ n)
only b x n h = grind (arith, some_injective)

pub same_length : (n k : ℕ) → (n == k) ≡ true → n ≡ k
same_length n k h = grind (arith, nat_tests)

widest_of : (variant : Variant) (whole : ℤ) (scale k : ℕ) (n : Number) → number_from variant whole scale ≡ n → k ≤ widest_number variant (pos 1)
    → k ≤ widest_number n.variant n.whole
widest_of variant whole scale k n is h = rw (← is) (grind arith)

-- which of the payloads a number is
pub number_cases : (a b c d none short nine seventeen : Bool) (zero_one signed_one unsigned_one small large n : Number)
    → (if a then then_some none zero_one
    else if b then then_some short signed_one
    else if c then then_some short unsigned_one
    else if d then (if nine then Some small else then_some seventeen large)
    else None) ≡ Some n
    → ((none ≡ true) × (zero_one ≡ n))
    ⊎ (((short ≡ true) × (signed_one ≡ n)) ⊎ (((short ≡ true) × (unsigned_one ≡ n)) ⊎ (((nine ≡ true) × (small ≡ n)) ⊎ ((seventeen ≡ true) × (large ≡ n)))))
number_cases a b c d none short nine seventeen zero_one signed_one unsigned_one small large n h = grind (arith, only, some_injective)

-- a payload is no longer than the widest of its number
number_size : (bytes : List ℕ) (n : Number) → number_of bytes ≡ Some n → length bytes ≤ widest_number n.variant n.whole
unfolding number_of
number_size [] n e = absurd (cc)
number_size (first ∷ rest) n e = elim
    (number_cases (first == 0x00) (first == 0x40) (first == 0x50) (first == 0x70) (length rest == 0) (is_width (length rest)) (length rest == 9)
    (length rest == 17) zero_number (number_from int64 (signed (length rest) rest) 0) (number_from uint64 (pos (big_number (length rest) rest)) 0)
    (number_from decimal64 (fixed w64 rest) (slice_index rest 8)) (number_from decimal128 (fixed w128 rest) (slice_index rest 16)) n e) [
      | inl f ↦ let len = same_length (length rest) 0 f.0 in rw (← f.1) (omega (arith, len))
      | inr (inl f) ↦ grind (arith, nat_tests, widest_of)
      | inr (inr (inl f)) ↦ grind (arith, nat_tests, widest_of)
      | inr (inr (inr (inl f))) ↦ grind (arith, nat_tests, widest_of)
      | inr (inr (inr (inr f))) ↦ grind (arith, nat_tests, widest_of)
    ]

-- which of the payloads an extension is
pub extension_cases : (a b c d e four eight twelve sixteen : Bool) (p q r s t x : Extension)
    → (if a then Some p
    else if b then then_some four q
    else if c then then_some eight r
    else if d then then_some twelve s
    else if e then then_some sixteen t
    else None) ≡ Some x
    → ((a ≡ true) × (p ≡ x)) ⊎
    (((b ≡ true) × (four ≡ true) × (q ≡ x))
    ⊎ (((c ≡ true) × (eight ≡ true) × (r ≡ x)) ⊎ (((d ≡ true) × (twelve ≡ true) × (s ≡ x)) ⊎ ((e ≡ true) × (sixteen ≡ true) × (t ≡ x)))))
extension_cases a b c d e four eight twelve sixteen p q r s t x h = search (arith, some_injective, only)

-- ---- how long the bytes of containers are

module _ (number_at : NumberReader) (bytes : List ℕ) where
  pub length-array : (ts : Trees) (c : IsContainer array_header (count ts) (AreEntries number_at ts) bytes)
      → length bytes ≡ 4 + (4 * count ts + length c.contents)
  length-array ts c = grind (arith, length-append, length-words)

  pub length-object : (ps : Pairs) (c : IsContainer object_header (length (keys ps)) (AreMembers (keys ps) (AreValues number_at ps)) bytes)
      → length bytes ≡ 4 + (8 * length (keys ps) + (length (key_bytes (keys ps)) + length c.parts.value_contents))
  length-object ps c = grind (arith, entries_of, length-append, length-key_words, length-words, count-values)

length-canonical_words : (ts : Trees) → length (words ts) ≡ 4 * count ts
length-canonical_words no_trees = refl
length-canonical_words (tree t ts) = omega (arith, length-canonical_words ts)

length-value_words : (ps : Pairs) → length (value_words ps) ≡ 4 * length (keys ps)
length-value_words no_pairs = refl
length-value_words (pair key t ps) = omega (arith, length-value_words ps)

-- the contents of the first and of the others make the whole
pub length-contents : (words contents : List ℕ) (kind : ℕ) (content other_words other_contents : List ℕ)
    → BeginWith words contents kind content other_words other_contents → length contents ≡ length content + length other_contents
length-contents words contents kind content other_words other_contents b = ap length b.contents_joined ∙ length-append content other_contents

mutual
  -- a canonical content is as long as stated
  pub length-content : (t : Tree) → length (content t) ≡ content_size canonical t
  length-content (array ts) = omega (arith, length-append (words ts) (contents ts), length-canonical_words ts, length-elements ts)
  length-content (object ps) = grind (arith, length-append, length-key_words, length-value_words, length-values ps)
  length-content _ = refl

  length-elements : (ts : Trees) → length (contents ts) ≡ elements_size canonical ts
  length-elements no_trees = refl
  length-elements (tree t ts) = omega (arith, length-append (content t) (contents ts), length-content t, length-elements ts)

  length-values : (ps : Pairs) → length (value_contents ps) ≡ values_size canonical ps
  length-values no_pairs = refl
  length-values (pair key t ps) = omega (arith, length-append (content t) (value_contents ps), length-content t, length-values ps)

payload_size : (form : Form) (bytes : List ℕ) (n : Number) → number_reader form bytes ≡ Some n
    → length bytes ≤ content_size form (number n)
payload_size any bytes n h = number_size bytes n h
payload_size canonical bytes n h = omega (arith, ap length (canonical_payload bytes n h))

module _ (form : Form) where
  mutual
    -- a content is no longer than the tree may be in its form
    pub size_within : (t : Tree) (kind : ℕ) (bytes : List ℕ) → IsContent (number_reader form) t kind bytes
        → length bytes ≤ content_size form t
    size_within (number n) kind bytes h = payload_size form bytes n h.1
    size_within (array ts) kind bytes (is, c) =
        omega (arith, length-array (number_reader form) bytes ts c, entries_within ts c.words c.contents c.parts)
    size_within (object ps) kind bytes (is, c) =
        let m = c.parts in
        let inner = values_within ps m.value_words m.value_contents m.values in
        omega (arith, length-object (number_reader form) bytes ps c, inner)
    size_within _ kind bytes h = grind arith

    entries_within : (ts : Trees) (ws cs : List ℕ) → AreEntries (number_reader form) ts ws cs
        → length cs ≤ elements_size form ts
    entries_within no_trees ws cs h = omega (arith, ap length h.1)
    entries_within (tree t ts) ws cs e =
        let others = entries_within ts e.other_words e.other_contents e.others in
        omega (arith, length-contents _ _ _ _ _ _ e.begin, size_within t e.kind e.content e.part, others)

    values_within : (ps : Pairs) (ws cs : List ℕ) → AreValues (number_reader form) ps ws cs
        → length cs ≤ values_size form ps
    values_within no_pairs ws cs h = omega (arith, ap length h.1)
    values_within (pair key t ps) ws cs e =
        let others = values_within ps e.other_words e.other_contents e.others in
        omega (arith, length-contents _ _ _ _ _ _ e.begin, size_within t e.kind e.content e.part, others)

fewer_trees : (ts us : List Tree) → count (trees_of ts) ≤ count (trees_of (ts ++ us))
fewer_trees [] us = omega arith
fewer_trees (t ∷ ts) us = omega (arith, fewer_trees ts us)

short_front : (form : Form) (ts us : List Tree) → HasShortElements form (trees_of (ts ++ us)) → HasShortElements form (trees_of ts)
short_front form [] us h = tt
short_front form (t ∷ ts) us h = (h.0, h.1, short_front form ts us h.2)

-- an array that exceeds the limits still does with more elements
pub array_too_large-more : (form : Form) (ts us : List Tree) → IsTooLarge form (array (trees_of ts)) → IsTooLarge form (array (trees_of (ts ++ us)))
array_too_large-more form ts us h = grind (arith, fewer_trees, short_front)

-- each element of a container within the limits is short, and within them itself
pub well_among : (form : Form) (xs ys : List Tree) (t : Tree) → HasShortElements form (trees_of (xs ++ t ∷ ys))
    → IsShort form t × HasShortParts form t
well_among form [] ys t h = (h.0, h.1)
well_among form (x ∷ xs) ys t h = well_among form xs ys t h.2

-- an array exceeds the limits if an element does
pub array_too_large-element : (form : Form) (ts us : List Tree) (t : Tree) → IsTooLarge form t → IsTooLarge form (array (trees_of (ts ++ t ∷ us)))
array_too_large-element form ts us t large = grind (arith, well_among)

-- the keys of an object that bytes decode to are sorted
pub decoded_keys : (form : Form) (bytes : List ℕ) (ps : Pairs) → Decodes form bytes (object ps) → AreKeys (keys ps)
decoded_keys form bytes ps d = (object_document (number_reader form) ps bytes d.document).1.parts.are_keys

pub decoded_members : (form : Form) (bytes : List ℕ) (ps : Pairs) → Decodes form bytes (object ps) → AreKeys (keys_of (members ps))
decoded_members form bytes ps h = rw (keys_of-members ps) (decoded_keys form bytes ps h)
