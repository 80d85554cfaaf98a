-- Entries are split into the first one and the others, and joined again; so are keys; contents are passed over by the lengths in their words.
use Rattle.jsonb_doc.proofs.Common.{rules, option_and_then, ◌≡◌, ℕ, ◌<◌, ◌≤◌, List, [], length, refl, ap, arith, Option, Some, None, true, if◌then◌else◌, ◌↔◌, inl, inr, length-append, Tree, boolean, number, array, object, Trees, no_trees, tree, Pairs, no_pairs, pair, count, keys, NumberReader, Form, canonical, number_reader, number_payload, number_of, number_or_unsupported, bytes_eq, BeginWith, HasFirstEntry, IsContainer, AreMembers, array_header, object_header, IsDocument, IsContent, AreEntries, AreValues, HasContent, HasEntries, ◌^◌, ◌∷◌, ◌++◌, append_assoc, ⊤, AreKeys, IsBelowFirst, key_words, key_bytes, HasKeys, IsAbove, IsNextKey, zero, suc, ◌+◌, ◌/◌, ◌%◌, take, map, sum, Bor, IsGetRangeResult, drop_at, take-append-drop, sum_by-cons, between_to_end, IsSomeAnd, IfSome, w32, from_be_bytes, from_be_bytes-to_be_bytes_4, first_chunks, drop, sym, ◌∙◌, slice_index_or, ◌-◌, ◌*◌, drop-drop, drop-take, take-take, lengths_of, StandBefore, HoldKeys, common_steps, suc-mul}
use Rattle.jsonb_doc.specs.Number.{Number}
use Rattle.jsonb_doc.proofs.WordLemmas.{bytes_eq-true, bytes_eq-same, word_cancel, append_cancel}

pub BeginWith-long : (words contents : List ℕ) (kind : ℕ) (content ws cs : List ℕ) → BeginWith words contents kind content ws cs → 4 ≤ length words
BeginWith-long words contents kind content ws cs b = omega (arith, ap length b.words_joined)

-- the first entry and the others are within the contents
pub BeginWith-room : (words contents : List ℕ) (kind : ℕ) (content ws cs : List ℕ) → BeginWith words contents kind content ws cs
    → (length content ≤ length contents) × (length cs ≤ length contents)
BeginWith-room words contents kind content ws cs h = grind (arith, length-append)

-- there is one first entry at most
pub BeginWith-unique : (words contents : List ℕ) (k k' : ℕ) (x x' ws ws' cs cs' : List ℕ) → BeginWith words contents k x ws cs
    → BeginWith words contents k' x' ws' cs'
    → (k ≡ k') × (x ≡ x') × (ws ≡ ws') × (cs ≡ cs')
BeginWith-unique words contents k k' x x' ws ws' cs cs' h e = grind (arith, word_cancel, append_cancel)

module _ {P : ℕ → List ℕ → Type 0} {Q : List ℕ → List ℕ → Type 0} (words contents : List ℕ) (kind : ℕ) (content ws cs : List ℕ)
    (b : BeginWith words contents kind content ws cs) where
  Entry-split : HasFirstEntry P Q words contents → P kind content × Q ws cs
  Entry-split e =
      let (same_kind, same_content, same_words, same_contents) = BeginWith-unique words contents kind e.kind content e.content ws e.other_words cs
      e.other_contents b e.begin in
      rw (same_kind, same_content, same_words, same_contents) (e.part, e.others)

  pub Entry-join : P kind content → Q ws cs → HasFirstEntry P Q words contents
  Entry-join h e = grind arith

module _ (number_at : NumberReader) where
  pub kind_below : (t : Tree) (kind : ℕ) (bytes : List ℕ) → IsContent number_at t kind bytes → kind < 7
  kind_below (boolean true) kind bytes h = omega arith
  kind_below _ kind bytes h = omega arith

  pub HasEntries-nil : (words contents : List ℕ) → words ≡ [] → contents ≡ [] → HasEntries words contents number_at
  HasEntries-nil words contents e f = (no_trees, (e, f))

  pub HasEntries-empty : (words contents : List ℕ) → words ≡ [] → HasEntries words contents number_at → contents ≡ []
  HasEntries-empty words contents e (no_trees, h) = h.1
  HasEntries-empty words contents e (tree t ts, n) = grind (arith, BeginWith-long)

  -- entries that are not empty begin with an entry
  pub HasEntries-stop : (words contents : List ℕ) → 0 < length words → ((kind : ℕ) (content ws cs : List ℕ) → BeginWith words contents kind content ws cs → ⊥)
      → HasEntries words contents number_at → ⊥
  HasEntries-stop words contents some none (no_trees, h) = omega (arith, ap length h.0)
  HasEntries-stop words contents some none (tree t ts, n) = search (arith, none n.kind n.content n.other_words n.other_contents n.begin)

  -- the first tree is that of the first entry
  pub AreEntries-first : (ts : Trees) (words contents : List ℕ) (kind : ℕ) (content ws cs : List ℕ) → BeginWith words contents kind content ws cs
      → AreEntries number_at ts words contents
      → (t : Tree) × (others : Trees) × (ts ≡ tree t others) × IsContent number_at t kind content × AreEntries number_at others ws cs
  AreEntries-first no_trees words contents kind content ws cs b h = grind (arith, BeginWith-long)
  AreEntries-first (tree t ts) words contents kind content ws cs b e =
      let parts = Entry-split {P = IsContent number_at t} {Q = AreEntries number_at ts} words contents kind content ws cs b e in
      (t, ts, refl, parts.0, parts.1)

  pub HasEntries-step : (words contents : List ℕ) (kind : ℕ) (content ws cs : List ℕ)
      → BeginWith words contents kind content ws cs
      → HasEntries words contents number_at ↔ (HasContent kind content number_at × HasEntries ws cs number_at)
  HasEntries-step words contents kind content ws cs b = (
    λ h. let (t, others, is, part, entries) =
        AreEntries-first h.0 words contents kind content ws cs b h.1 in ((t, part), (others, entries)),
    λ h. (tree h.0.0 h.1.0, Entry-join words contents kind content ws cs b h.0.1 h.1.1),
  )

-- a property of entries may be replaced by what follows from it
Entry-map : {P P' : ℕ → List ℕ → Type 0} {Q Q' : List ℕ → List ℕ → Type 0} → ((kind : ℕ) (content : List ℕ) → P kind content → P' kind content)
    → ((words contents : List ℕ) → Q words contents → Q' words contents) → (words contents : List ℕ) → HasFirstEntry P Q words contents
    → HasFirstEntry P' Q' words contents
Entry-map h e words contents k = grind arith

Container-map : {Q Q' : List ℕ → List ℕ → Type 0} (kind n : ℕ) → ((words contents : List ℕ) → Q words contents → Q' words contents) → (bytes : List ℕ)
    → IsContainer kind n Q bytes → IsContainer kind n Q' bytes
Container-map kind n h bytes e = grind arith

Members-map : {Q Q' : List ℕ → List ℕ → Type 0} (ks : List (List ℕ)) → ((words contents : List ℕ) → Q words contents → Q' words contents)
    → (words contents : List ℕ) → AreMembers ks Q words contents → AreMembers ks Q' words contents
Members-map ks h words contents e = grind arith

-- what decodes if numbers are read in one way decodes so if they are read in another, which reads as many
module _ (strict lenient : NumberReader) (more : (bytes : List ℕ) (n : Number) → strict bytes ≡ Some n → lenient bytes ≡ Some n) where
  mutual
    pub content_map : (t : Tree) (kind : ℕ) (bytes : List ℕ) → IsContent strict t kind bytes → IsContent lenient t kind bytes
    content_map (number n) kind bytes h = (h.0, more bytes n h.1)
    content_map (array ts) kind bytes h = (h.0, Container-map array_header (count ts) (entries_map ts) bytes h.1)
    content_map (object ps) kind bytes h = (h.0, Container-map object_header (length (keys ps)) (Members-map (keys ps) (values_map ps)) bytes h.1)
    content_map _ kind bytes h = grind arith

    pub entries_map : (ts : Trees) (words contents : List ℕ) → AreEntries strict ts words contents → AreEntries lenient ts words contents
    entries_map no_trees words contents h = h
    entries_map (tree t ts) words contents e = Entry-map (content_map t) (entries_map ts) words contents e

    pub values_map : (ps : Pairs) (words contents : List ℕ) → AreValues strict ps words contents → AreValues lenient ps words contents
    values_map no_pairs words contents h = h
    values_map (pair key t ps) words contents e = Entry-map (content_map t) (values_map ps) words contents e

  pub document_map : (t : Tree) (bytes : List ℕ) → IsDocument strict t bytes → IsDocument lenient t bytes
  document_map t bytes (inl h) = inl (content_map t 5 bytes h)
  document_map t bytes (inr h) = search (rules, Container-map, Entry-map, content_map)

-- what decodes would decode with unsupported payloads as numbers
number_lenient : (bytes : List ℕ) (n : Number) → number_of bytes ≡ Some n → number_or_unsupported bytes ≡ Some n
number_lenient bytes n e = rw e refl

pub document_lenient : (t : Tree) (bytes : List ℕ) → IsDocument number_of t bytes → IsDocument number_or_unsupported t bytes
document_lenient = document_map number_of number_or_unsupported number_lenient

pub has_content_lenient : (kind : ℕ) (bytes : List ℕ) → HasContent kind bytes number_of → HasContent kind bytes number_or_unsupported
has_content_lenient kind bytes h = grind (arith, content_map, number_lenient)

-- ---- forms

-- the number, if the payload is the one that is written for it
abbrev if_written : List ℕ → Option Number → Option Number
if_written payload found = option_and_then (λ n. if bytes_eq payload (number_payload n) then Some n else None) found

if_written-some : (payload : List ℕ) (found : Option Number) (n : Number) → if_written payload found ≡ Some n → (found ≡ Some n) × (payload ≡ number_payload n)
if_written-some payload found n h = search (arith, bytes_eq-true)

-- what a form reads is a number in each document
pub reads_number : (form : Form) (bytes : List ℕ) (n : Number) → number_reader form bytes ≡ Some n → number_of bytes ≡ Some n
reads_number form bytes n h = grind (arith, if_written-some)

pub canonical_payload : (bytes : List ℕ) (n : Number) → number_reader canonical bytes ≡ Some n → bytes ≡ number_payload n
canonical_payload bytes n e = (if_written-some bytes (number_of bytes) n e).1

-- a canonical payload is read in each form
pub reads_canonical : (form : Form) (bytes : List ℕ) (n : Number) → number_reader canonical bytes ≡ Some n → number_reader form bytes ≡ Some n
reads_canonical form bytes n h = grind (arith, reads_number)

pub reads_written : (n : Number) → number_of (number_payload n) ≡ Some n → number_reader canonical (number_payload n) ≡ Some n
reads_written n e = rw (e, bytes_eq-same (number_payload n)) refl

-- the first of these keys may follow this key, if there are both
abbrev pub Follow : Option (List ℕ) → List (List ℕ) → Type 0
Follow None ks = ⊤
Follow (Some key) ks = IsBelowFirst key ks

pub Follow-from : (last : Option (List ℕ)) (key : List ℕ) (ks : List (List ℕ)) → IsAbove last key → Follow last (key ∷ ks)
Follow-from last key ks h = grind arith

-- the words and the bytes begin with those of some keys after this one, and the rest follows them
pub record KeysAfter (last : Option (List ℕ)) (words bytes rest : List ℕ) : Type 0 where
  pub ks : List (List ℕ)
  pub are_keys : AreKeys ks
  pub follow : Follow last ks
  pub words_joined : words ≡ key_words ks
  pub bytes_joined : bytes ≡ key_bytes ks ++ rest

pub KeysAfter-none : (words bytes rest : List ℕ) → HasKeys words bytes rest → KeysAfter None words bytes rest
KeysAfter-none words bytes rest h = grind arith

pub HasKeys-from : (words bytes rest : List ℕ) → KeysAfter None words bytes rest → HasKeys words bytes rest
HasKeys-from words bytes rest k = (k.ks, k.are_keys, k.words_joined, k.bytes_joined)

-- the first of some keys is the first entry
pub begin_key : (words bytes rest key : List ℕ) (ks : List (List ℕ)) → length key < 2 ^ 28 → words ≡ key_words (key ∷ ks) → bytes ≡ key_bytes (key ∷ ks) ++ rest
    → BeginWith words bytes 1 key (key_words ks) (key_bytes ks ++ rest)
begin_key words bytes rest key ks h e k = grind (arith, append_assoc)

-- keys that are not empty begin with an entry
pub KeysAfter-stop : (last : Option (List ℕ)) (words bytes rest : List ℕ) → 0 < length words
    → ((kind : ℕ) (content ws cs : List ℕ) → BeginWith words bytes kind content ws cs → ⊥) → KeysAfter last words bytes rest → ⊥
KeysAfter-stop last words bytes rest some none k = go k.ks k.are_keys k.words_joined k.bytes_joined
  where
    go : (ks : List (List ℕ)) → AreKeys ks → words ≡ key_words ks → bytes ≡ key_bytes ks ++ rest → ⊥
    go [] are e f = omega (arith, ap length e)
    go (key ∷ ks) are e f = none 1 key (key_words ks) (key_bytes ks ++ rest) (begin_key words bytes rest key ks are.0.1 e f)

module _ (last : Option (List ℕ)) (words bytes : List ℕ) (kind : ℕ) (key ws bs : List ℕ) (b : BeginWith words bytes kind key ws bs) where
  pub KeysAfter-split : (rest : List ℕ) → KeysAfter last words bytes rest → (kind ≡ 1) × IsNextKey last key × KeysAfter (Some key) ws bs rest
  KeysAfter-split rest k = go k.ks k.are_keys k.follow k.words_joined k.bytes_joined
    where
      go : (ks : List (List ℕ)) → AreKeys ks → Follow last ks → words ≡ key_words ks → bytes ≡ key_bytes ks ++ rest
          → (kind ≡ 1) × IsNextKey last key × KeysAfter (Some key) ws bs rest
      go [] are follow e f = absurd (omega (arith, BeginWith-long words bytes kind key ws bs b, ap length e))
      go (first ∷ ks) are follow e f =
          let (same_kind, same_key, same_words, same_bytes) = BeginWith-unique words bytes kind 1 key first ws (key_words ks) bs (key_bytes ks ++ rest) b
          (begin_key words bytes rest first ks are.0.1 e f) in
          let after : KeysAfter (Some first) (key_words ks)
          (key_bytes ks ++ rest) rest = record { ks = ks; are_keys = are.2; follow = are.1; words_joined = refl; bytes_joined = refl } in
          rw (same_key, same_words, same_bytes) (same_kind, (are.0.0, grind arith), after)

  pub KeysAfter-join : (rest : List ℕ) → kind ≡ 1 → IsNextKey last key → KeysAfter (Some key) ws bs rest → KeysAfter last words bytes rest
  KeysAfter-join rest is next after =
      let more = append_assoc key (key_bytes after.ks) rest in
      search (arith, next.0, b.fits, after.follow, after.are_keys, Follow-from last key after.ks next.1, b.words_joined, b.contents_joined, more)

-- the length in a word
abbrev pub told : List ℕ → ℕ
told word = from_be_bytes w32 word % 2 ^ 28

-- the word of an entry determines how long its content is
pub told_length : (words contents : List ℕ) (kind : ℕ) (content ws cs : List ℕ) → BeginWith words contents kind content ws cs
    → told (take 4 words) ≡ length content
told_length words contents kind content ws cs h = grind (arith, from_be_bytes-to_be_bytes_4)

-- words determine how long the contents are that precede the rest
pub told_lengths : (parts : List (List ℕ)) (words contents rest : List ℕ) (k : ℕ) → k ≡ length words / 4 → StandBefore parts words contents rest
    → sum (map told (first_chunks 4 k words)) + length rest ≡ length contents
told_lengths [] words contents rest k count h = grind arith
told_lengths (part ∷ parts) words contents rest zero count e = grind (arith, BeginWith-long)
told_lengths (part ∷ parts) words contents rest (suc k) count e =
    grind (arith, common_steps, told_lengths parts e.other_words e.other_contents rest k, told_length, sum_by-cons, length-append)

lengths_first : (n : ℕ) (words : List ℕ) → lengths_of (suc n) words ≡ told (take 4 words) + lengths_of n (drop 4 words)
lengths_first n words = sum_by-cons (λ (x : ℕ). x) (told (take 4 words)) (map told (first_chunks 4 n (drop 4 words)))

-- the lengths in the first words, and in those after them
lengths_both : (n m : ℕ) (words : List ℕ) → lengths_of (n + m) words ≡ lengths_of n words + lengths_of m (drop (4 * n) words)
lengths_both zero m words = grind (arith, common_steps)
lengths_both (suc n) m words =
    let others : drop (4 * n) (drop 4 words) ≡ drop (4 * suc n) words = drop-drop (4 * n) 4 words ∙ ap (λ (k : ℕ). drop k words) (omega arith) in
    let size : suc n + m ≡ suc (n + m) = omega arith in
    omega (
      arith,
      ap (λ (k : ℕ). lengths_of k words) size,
      lengths_first (n + m) words,
      lengths_first n words,
      lengths_both n m (drop 4 words),
      ap (lengths_of m) others,
    )

lengths_within : (n k : ℕ) (words : List ℕ) → 4 * n ≤ k → lengths_of n (take k words) ≡ lengths_of n words
lengths_within zero k words enough = refl
lengths_within (suc n) k words enough =
    let more : k ≡ 4 + (k - 4) = omega (arith, enough) in
    let first : take 4 (take k words) ≡ take 4 words = take-take 4 k words (omega (arith, enough)) in
    let others : drop 4 (take k words) ≡ take (k - 4) (drop 4 words) = ap (λ (m : ℕ). drop 4 (take m words)) more ∙ drop-take 4 (k - 4) words in
    omega (
      arith,
      lengths_first n (take k words),
      lengths_first n words,
      ap told first,
      ap (lengths_of n) others,
      lengths_within n (k - 4) (drop 4 words) (omega (arith, enough)),
    )

-- the sums of groups of words make up that of all
pub lengths_grouped : (n k : ℕ) (words : List ℕ) → sum (map (lengths_of n) (first_chunks (4 * n) k words)) ≡ lengths_of (k * n) words
lengths_grouped n zero words = let none : 0 ≡ 0 * n = omega arith in ap (λ (m : ℕ). lengths_of m words) none
lengths_grouped n (suc k) words = grind (arith, common_steps, suc-mul, sum_by-cons, lengths_within, lengths_both, (lengths_grouped n k))

-- what is left from a position on is the element there, and the others
pub sum_left : {A : Type 0} (f : A → ℕ) (xs : List A) (i : ℕ) (or : A) → i < length xs
    → sum (map f (drop i xs)) ≡ f (slice_index_or xs i or) + sum (map f (drop (i + 1) xs))
sum_left f [] i or more = absurd (omega (arith, more))
sum_left f (x ∷ xs) zero or more = sum_by-cons (λ (n : ℕ). n) (f x) (map f xs)
sum_left f (x ∷ xs) (suc i) or more =
    let size : suc (i + 1) ≡ suc i + 1 = omega arith in
    sum_left f xs i or (omega (arith, more)) ∙ ap (λ (n : ℕ). f (slice_index_or xs i or) + sum (map f (drop n (x ∷ xs)))) size

pub lengths_of_all : (groups : ℕ) (words others : List ℕ) → others ≡ drop (groups * 128) words → groups * 128 + length others ≡ length words
    → sum (map (lengths_of 32) (first_chunks 128 groups words)) + lengths_of (length others / 4) others ≡ lengths_of (length words / 4) words
lengths_of_all groups words others is all =
    let count : length words / 4 ≡ groups * 32 + length others / 4 = omega (arith, all) in
    let behind : drop (4 * (groups * 32)) words ≡ others = ap (λ (n : ℕ). drop n words) (omega arith) ∙ sym is in
    omega (
      arith,
      lengths_grouped 32 groups words,
      ap (λ (n : ℕ). lengths_of n words) count,
      lengths_both (groups * 32) (length others / 4) words,
      ap (lengths_of (length others / 4)) behind,
    )

-- without words nothing precedes the rest
pub nothing_before : (parts : List (List ℕ)) (words contents rest : List ℕ) → length words ≡ 0 → StandBefore parts words contents rest → contents ≡ rest
nothing_before [] words contents rest none h = h.1
nothing_before (part ∷ parts) words contents rest none e = grind (arith, BeginWith-long)

-- the rest is the end of the contents
pub StandBefore-joined : (parts : List (List ℕ)) (words contents rest : List ℕ) → StandBefore parts words contents rest
    → (front : List ℕ) × (contents ≡ front ++ rest)
StandBefore-joined [] words contents rest h = ([], h.1)
StandBefore-joined (part ∷ parts) words contents rest e =
    let more = append_assoc e.content (StandBefore-joined parts e.other_words e.other_contents rest e.others).0 rest in
    search (arith, StandBefore-joined parts e.other_words e.other_contents rest e.others, e.begin.contents_joined, more)

-- a part of the contents up to their end
pub IsPart-some : (contents front rest : List ℕ) (n : ℕ) (r : Option (Bor (List ℕ))) → contents ≡ front ++ rest → n + length rest ≡ length contents
    → IsGetRangeResult contents n (length contents) r → IsSomeAnd r (λ x. x.now ≡ rest)
IsPart-some contents front rest n r h e k = grind (arith, between_to_end, drop_at, length-append)

pub IsPart-size : (contents : List ℕ) (n : ℕ) (r : Option (Bor (List ℕ))) → IsGetRangeResult contents n (length contents) r
    → IfSome r (λ x. length x.now ≤ length contents)
IsPart-size contents n r h = grind arith

pub IsPart-end : (contents : List ℕ) (n : ℕ) (r : Option (Bor (List ℕ))) → IsGetRangeResult contents n (length contents) r
    → IfSome r (λ x. (front : List ℕ) × (contents ≡ front ++ x.now))
IsPart-end contents n None h = tt
IsPart-end contents n (Some x) h =
    search (arith, h.0.2, between_to_end contents n (length contents) (omega arith), take n contents, take-append-drop n contents)

-- keys precede what follows them
pub keys_before : (ks : List (List ℕ)) (words bytes rest : List ℕ) → AreKeys ks → words ≡ key_words ks → bytes ≡ key_bytes ks ++ rest
    → StandBefore ks words bytes rest
keys_before [] words bytes rest are e f = (e, f)
keys_before (key ∷ ks) words bytes rest are e f = record {
  kind = 1;
  content = key;
  other_words = key_words ks;
  other_contents = key_bytes ks ++ rest;
  begin = begin_key words bytes rest key ks are.0.1 e f;
  part = refl;
  others = keys_before ks (key_words ks) (key_bytes ks ++ rest) rest are.2 refl refl;
}

pub HoldKeys-before : (ks : List (List ℕ)) (words bytes rest : List ℕ) → HoldKeys ks words bytes rest → StandBefore ks words bytes rest
HoldKeys-before ks words bytes rest h = keys_before ks words bytes rest h.are_keys h.words_joined h.bytes_joined
