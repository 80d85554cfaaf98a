-- The search for a key, one after the other and by blocks, and the value under it.
use Rattle.jsonb_doc.proofs.Common.{rules, common_steps, elements, values, ◌≡◌, ◌≢◌, ℕ, zero, suc, ◌+◌, ◌-◌, ◌*◌, ◌<◌, ◌≤◌, List, [], ◌∷◌, ◌++◌, length, length-drop, take, drop, slice_index_or, refl, sym, ap, ◌∙◌, arith, Some, None, Bool, false, append_assoc, length-append, append-nil, drop-drop, drop_at, take_at, length-take-le, first_chunks, bytes_eq, Decides, slice_range, Tree, object, Pairs, no_pairs, pair, keys, value_under, field_of, NumberReader, Form, any, number_reader, Decodes, header, BeginWith, AreValues, IsContent, key_words, key_bytes, StandBefore, HoldKeys, IsNoneOf, FoundKey, KeysLeft, SameOption, Locates, spot_content, kind_number, Spot, Holds, IsCut, HasPairParts, IsValueEntry, ObjectParts, Entry, Object, ◌⊎◌, inl, inr, Option, Result, Ok, Err, Bor, IsGetRangeResult, IsSomeAnd, IsOkAnd, Ordering, Less, Equal, Greater, AreBelow, IsBlockOf, IsKeyPosition, IsFoundAt, ◌/◌, ordering_reverse, slice_cmp, cases_lt, nat_list_cmp_total, drop_all, take-append-drop, AreKeys, IsBelowFirst, FindsKey, Error, nat_cmp}
use Rattle.jsonb_doc.proofs.WordLemmas.{bytes_eq-true, bytes_eq-same}
use Rattle.jsonb_doc.proofs.Entries.{BeginWith-long, BeginWith-unique, begin_key, told, told_length, StandBefore-joined, HoldKeys-before, keys_before, IsPart-some}
use Rattle.jsonb_doc.proofs.ScalarLemmas.{some_injective}
use Rattle.jsonb_doc.proofs.Containers.{length-key_words, HoldsPairs-keys, entries_of}
use Rattle.jsonb_doc.proofs.TreeLists.{trees_of-elements}
use Rattle.jsonb_doc.proofs.WriterLemmas.{split_at}
use Rattle.jsonb_doc.proofs.SpotsLemmas.{Locates-part, some_field, object_held, object_joined}
use Rattle.jsonb_doc.proofs.ObjectLemmas.{equal_key, above}
use Rattle.jsonb_doc.specs.declared.key_search.KeyPosition.TheVariants.{Found, Missing}
use Rattle.jsonb_doc.proofs.Basics.{below_next}

-- ---- the search

IsNoneOf-both : (name : List ℕ) (front back : List (List ℕ)) → IsNoneOf name front → IsNoneOf name back
    → IsNoneOf name (front ++ back)
IsNoneOf-both name [] back first others = others
IsNoneOf-both name (key ∷ front) back first others = (first.0, IsNoneOf-both name front back first.1 others)

abbrev pub KeysLeft-start : (P : List (List ℕ) → Type 0) (ks : List (List ℕ)) (rest words bytes : List ℕ) → P [] → HoldKeys ks words bytes rest
    → KeysLeft P ks rest words bytes
KeysLeft-start P ks rest words bytes none h = record { front = []; back = ks; joined = refl; first = none; behind = h }

pub KeysLeft-end : (name : List ℕ) (ks : List (List ℕ)) (rest words bytes : List ℕ) → length words < 4 → KeysLeft (IsNoneOf name) ks rest words bytes
    → IsNoneOf name ks
KeysLeft-end name ks rest words bytes none l = go l.back l.joined l.behind
  where
    go : (back : List (List ℕ)) → ks ≡ l.front ++ back → HoldKeys back words bytes rest → IsNoneOf name ks
    go [] joined h = rw (joined ∙ append-nil l.front) l.first
    go (key ∷ back) joined h = absurd (omega (arith, ap length h.words_joined))

module _ (words bytes : List ℕ) (kind : ℕ) (key ws bs : List ℕ) (b : BeginWith words bytes kind key ws bs) where
  -- the first of the keys is the first entry
  pub first_key : (back : List (List ℕ)) (rest : List ℕ) → HoldKeys back words bytes rest
      → (others : List (List ℕ)) × (back ≡ key ∷ others) × HoldKeys others ws bs rest
  first_key [] rest h = absurd (omega (arith, BeginWith-long words bytes kind key ws bs b, ap length h.words_joined))
  first_key (first ∷ others) rest h =
      let same = BeginWith-unique _ _ _ _ _ _ _ _ _ _ b (begin_key words bytes rest first others h.are_keys.0.1 h.words_joined h.bytes_joined) in
      (others, ap (λ (k : List ℕ). k ∷ others) (sym same.1), record { are_keys = h.are_keys.2; words_joined = same.2; bytes_joined = same.3 })

  pub KeysLeft-step : (P : List (List ℕ) → Type 0) (ks : List (List ℕ)) (rest : List ℕ) (l : KeysLeft P ks rest words bytes) → P (l.front ++ key ∷ [])
      → KeysLeft P ks rest ws bs
  KeysLeft-step P ks rest l more = grind (arith, first_key, append_assoc)

  pub KeysLeft-found : (name : List ℕ) (ks : List (List ℕ)) (rest : List ℕ) → key ≡ name → KeysLeft (IsNoneOf name) ks rest words bytes → FoundKey name ks rest ws bs
  KeysLeft-found name ks rest h e = grind (arith, first_key)

pub is_other : {r : Bool} {P : Type 0} → Decides r P → r ≡ false → P → ⊥
is_other decides differ p = let same = decides.1 p in cc (same, differ)

-- the word at a position of all words
pub chunk_at : (k i : ℕ) (words : List ℕ) → i < k → slice_index_or (first_chunks 4 k words) i [] ≡ take 4 (drop (4 * i) words)
chunk_at (suc k) (suc i) words h =
    chunk_at k i (drop 4 words) (omega (arith, h)) ∙ ap (take 4) (drop-drop (4 * i) 4 words ∙ ap (λ (n : ℕ). drop n words) (omega arith))
chunk_at _ _ words h = grind arith

-- a key that was cut from all bytes
pub key_cut : (bytes key : List ℕ) (end len : ℕ) → key ≡ slice_range bytes end (end + len) → key ≡ take len (drop end bytes)
key_cut bytes key end len e = e ∙ ap (λ (n : ℕ). take n (drop end bytes)) (omega arith)

-- the first of the keys that are left, by its word
record FirstKey (words bytes : List ℕ) : Type 0 where
  pub key : List ℕ
  pub begin : BeginWith words bytes 1 key (drop 4 words) (drop (length key) bytes)
  pub is : take (length key) bytes ≡ key
  pub long : told (take 4 words) ≡ length key
  pub within : length key ≤ length bytes

first_of : (name : List ℕ) (ks : List (List ℕ)) (rest words bytes : List ℕ) → KeysLeft (IsNoneOf name) ks rest words bytes → 4 ≤ length words → FirstKey words bytes
first_of name ks rest words bytes l some = go l.back l.behind
  where
    go : (back : List (List ℕ)) → HoldKeys back words bytes rest → FirstKey words bytes
    go [] h = absurd (omega (arith, some, ap length h.words_joined))
    go (key ∷ others) h =
        let b = begin_key words bytes rest key others h.are_keys.0.1 h.words_joined h.bytes_joined in
        let left : drop (length key) bytes ≡ key_bytes others ++ rest =
        ap (drop (length key)) b.contents_joined ∙ drop_at key (key_bytes others ++ rest) (length key) refl in
        record {
          key = key;
          begin = rw (ap (drop 4) b.words_joined, left) b;
          is = ap (take (length key)) b.contents_joined ∙ take_at key (key_bytes others ++ rest) (length key) refl;
          long = told_length words bytes 1 key _ _ b;
          within = omega (arith, ap length b.contents_joined, length-append key (key_bytes others ++ rest));
        }

module _ (name : List ℕ) (ks : List (List ℕ)) (rest words bytes : List ℕ) (at end len : ℕ)
    (l : KeysLeft (IsNoneOf name) ks rest (drop (4 * at) words) (drop end bytes)) (some : 4 * at + 4 ≤ length words) (before : end ≤ length bytes)
    (is : len ≡ told (take 4 (drop (4 * at) words))) where
  first : FirstKey (drop (4 * at) words) (drop end bytes)
  first = first_of name ks rest (drop (4 * at) words) (drop end bytes) l (omega (arith, some, length-drop (4 * at) words))

  same_len : len ≡ length first.key
  same_len = is ∙ first.long

  same_key : take len (drop end bytes) ≡ first.key
  same_key = ap (λ (n : ℕ). take n (drop end bytes)) same_len ∙ first.is

  words_behind : drop 4 (drop (4 * at) words) ≡ drop (4 * (at + 1)) words
  words_behind = drop-drop 4 (4 * at) words ∙ ap (λ (n : ℕ). drop n words) (omega arith)

  bytes_behind : drop (length first.key) (drop end bytes) ≡ drop (end + len) bytes
  bytes_behind = drop-drop (length first.key) end bytes ∙ ap (λ (n : ℕ). drop (end + n) bytes) (sym same_len)

  pub key_within : end + len ≤ length bytes
  key_within = omega (arith, first.within, same_len, length-drop end bytes, before)

  pub key_differs : len ≢ length name → take len (drop end bytes) ≢ name
  key_differs h = grind (arith, length-take-le, key_within, length-drop)

  pub key_passed : take len (drop end bytes) ≢ name → KeysLeft (IsNoneOf name) ks rest (drop (4 * (at + 1)) words) (drop (end + len) bytes)
  key_passed other =
      rw (← words_behind, ← bytes_behind)
      (KeysLeft-step _ _ _ _ _ _ first.begin (IsNoneOf name) ks rest l
      (IsNoneOf-both name l.front (first.key ∷ []) l.first (λ (e : first.key ≡ name). other (same_key ∙ e), tt)))

  pub key_found : take len (drop end bytes) ≡ name → FoundKey name ks rest (drop (4 * (at + 1)) words) (drop (end + len) bytes)
  key_found e = search (arith, words_behind, bytes_behind, KeysLeft-found _ _ _ _ _ _ first.begin name ks rest (sym same_key ∙ e) l)

-- ---- the value

-- a value that follows this many bytes of words
pub record ValueAt (number_at : NumberReader) (value : Tree) (passed : ℕ) (words contents : List ℕ) : Type 0 where
  pub parts : List (List ℕ)
  pub left : List ℕ
  pub before : StandBefore parts (take passed words) contents left
  pub kind : ℕ
  pub content : List ℕ
  pub ws : List ℕ
  pub cs : List ℕ
  pub begin : BeginWith (drop passed words) left kind content ws cs
  pub part : IsContent number_at value kind content

bytes_eq-other : (xs ys : List ℕ) → xs ≢ ys → bytes_eq xs ys ≡ false
bytes_eq-other xs ys h = grind (arith, bytes_eq-true)

pub no_value : (name : List ℕ) (ps : Pairs) → IsNoneOf name (keys ps) → value_under name ps ≡ None
no_value name no_pairs none = refl
no_value name (pair key t ps) none = rw (bytes_eq-other key name none.0) (no_value name ps none.1)

-- the value under the name is after as many others as its key
value_at : (name : List ℕ) (ps : Pairs) (front back : List (List ℕ)) → keys ps ≡ front ++ name ∷ back
    → IsNoneOf name front
    → (value : Tree) × (others : List Tree) × (value_under name ps ≡ Some value)
    × (drop (length front) (elements (values ps)) ≡ value ∷ others)
value_at name no_pairs [] back joined none = absurd (cc joined)
value_at name no_pairs (k ∷ front) back joined none = absurd (cc joined)
value_at name (pair key t ps) [] back joined none =
    let same : key ≡ name = cc joined in (t, elements (values ps), rw (same, bytes_eq-same name) refl, refl)
value_at name (pair key t ps) (k ∷ front) back joined none =
    grind (arith, value_at name ps front back (cc joined) none.1, bytes_eq-other)

-- the entry of that value
value_split : (number_at : NumberReader) (name : List ℕ) (ps : Pairs) (front back : List (List ℕ))
    (words contents : List ℕ) → keys ps ≡ front ++ name ∷ back
    → IsNoneOf name front → AreValues number_at ps words contents
    → (value : Tree) × (value_under name ps ≡ Some value) × ValueAt number_at value (4 * length front) words contents
value_split number_at name ps front back words contents joined none e =
    let (value, others, under, is) = value_at name ps front back joined none in
    let entries = rw (← trees_of-elements (values ps)) at (entries_of number_at ps words contents e) in
    let s = split_at number_at (length front) (elements (values ps)) words contents entries in
    grind (arith, s, under, is)

-- ---- the entry of the value

module _ (number_at : NumberReader) (name : List ℕ) (ps : Pairs) (p : ObjectParts) (held : HasPairParts number_at ps p) where
  keys_held : HoldKeys (keys ps) p.key_words.now p.contents.now held.rest
  keys_held = HoldsPairs-keys number_at ps p held

  -- no key of the object is the name
  pub value_absent : ((ks : List (List ℕ)) (found : List ℕ) → HoldKeys ks p.key_words.now p.contents.now found → IsNoneOf name ks)
      → value_under name ps ≡ None
  value_absent none = no_value name ps (none (keys ps) held.rest keys_held)

  -- its keys are searched
  module _ (behind bytes_behind : List ℕ)
      (finds : (ks : List (List ℕ)) (found : List ℕ) → HoldKeys ks p.key_words.now p.contents.now found → FoundKey name ks found behind bytes_behind) where
    key_found_at : FoundKey name (keys ps) held.rest behind bytes_behind
    key_found_at = finds (keys ps) held.rest keys_held

    -- keys follow the one that was found
    pub keys_behind : (back : List (List ℕ)) × (found : List ℕ) × StandBefore back behind bytes_behind found
    keys_behind = let f = key_found_at in (f.back, held.rest, HoldKeys-before f.back _ _ held.rest f.behind)

    module _ (contents : List ℕ) (skips : (parts : List (List ℕ)) (others : List ℕ) → StandBefore parts behind bytes_behind others → contents ≡ others)
        (passed : ℕ) (place : passed ≡ length p.key_words.now - length behind - 4) where
      skipped : contents ≡ held.rest
      skipped = let f = key_found_at in skips f.back held.rest (HoldKeys-before f.back _ _ held.rest f.behind)

      -- the value, after the contents of the keys
      pub value_there : (value : Tree) × (value_under name ps ≡ Some value) × ValueAt number_at value passed p.value_words.now contents
      value_there = grind (arith, key_found_at, value_split, length-key_words, length-append, skipped)

      module _ (e : Entry)
          (entry : (parts : List (List ℕ)) (left : List ℕ) → StandBefore parts (take passed p.value_words.now) contents left
          → BeginWith (drop passed p.value_words.now) left (kind_number e.kind) e.content.now e.other_words.now e.other_contents.now) where
        pub value_entry : IsValueEntry number_at name ps p e
        value_entry =
            let (value, under, at) = value_there in
            let (same_kind, same_content, same_words, same_contents) = BeginWith-unique _ _ _ _ _ _ _ _ _ _ (entry at.parts at.left at.before) at.begin in
            record {
              value = value;
              under = under;
              part = rw (same_kind, same_content) at.part;
              front = key_bytes (keys ps) ++ (StandBefore-joined at.parts _ contents at.left at.before).0;
              ends = grind (arith, skipped, append_assoc);
            }

-- ---- the spot of the value

module _ (bytes : List ℕ) (parent : Spot) (t : Tree) (m : Locates bytes parent t) (content : List ℕ) (is : content ≡ spot_content bytes parent)
    (container : kind_number parent.kind ≡ 5)
    (p : ObjectParts) (cut : IsCut content (Object p)) (name : List ℕ) where
  held_in : (form : Form) (top : Tree) → Decodes form bytes top → Holds (number_reader form) t (Object p)
  held_in = object_held bytes parent t m content is container p cut

  pub field_searched : ((number_at : NumberReader) (ps : Pairs) → HasPairParts number_at ps p → ⊥) → ⊥
  field_searched none = grind (arith, held_in any m.whole m.decodes, none (number_reader any))

  pub field_absent : ((number_at : NumberReader) (ps : Pairs) → HasPairParts number_at ps p → value_under name ps ≡ None)
      → SameOption (Locates bytes) None (field_of name t)
  field_absent none = grind (arith, held_in any m.whole m.decodes, none (number_reader any))

  pub field_marks : (e : Entry) (spot : Spot) → spot.kind ≡ e.kind → spot.end ≡ parent.end - length e.other_contents.now
      → spot.start ≡ spot.end - length e.content.now
      → ((number_at : NumberReader) (ps : Pairs) → HasPairParts number_at ps p → IsValueEntry number_at name ps p e)
      → SameOption (Locates bytes) (Some spot) (field_of name t)
  field_marks e spot k end start finds = go t m held_in
    where
      go : (u : Tree) → Locates bytes parent u → ((form : Form) (top : Tree) → Decodes form bytes top → Holds (number_reader form) u (Object p))
          → SameOption (Locates bytes) (Some spot) (field_of name u)
      go (object ps) l held =
          let one = finds (number_reader any) ps (held any m.whole m.decodes) in
          let words = header 2 cut.0 ++ (p.key_words.now ++ p.value_words.now) in
          let joined : spot_content bytes parent ≡ (words ++ one.front) ++ (e.content.now ++ e.other_contents.now) =
          sym is ∙ object_joined bytes parent t m content is container p cut ∙ ap (λ (w : List ℕ). words ++ w) one.ends
          ∙ sym (append_assoc words one.front (e.content.now ++ e.other_contents.now)) in
          some_field bytes name (object ps) one.value spot one.under
          (Locates-part bytes parent (object ps) l spot one.value (kind_number e.kind) (words ++ one.front) e.content.now e.other_contents.now joined (ap kind_number k)
          end start (λ form top d.
          let other = finds (number_reader form) ps (held form top d) in
          let same : other.value ≡ one.value = some_injective (sym other.under ∙ one.under) in
          rw (← same) other.part))
      go _ l held = absurd (held any m.whole m.decodes)

-- ---- keys in order

AreKeys-take : (n : ℕ) (ks : List (List ℕ)) → AreKeys ks → AreKeys (take n ks)
AreKeys-take (suc n) (key ∷ ks) are = (are.0, first n ks are.1, AreKeys-take n ks are.2)
  where
    first : (m : ℕ) (others : List (List ℕ)) → IsBelowFirst key others → IsBelowFirst key (take m others)
    first zero others below = tt
    first (suc m) [] below = tt
    first (suc m) (next ∷ others) below = below
AreKeys-take _ _ are = grind arith

AreKeys-drop : (n : ℕ) (ks : List (List ℕ)) → AreKeys ks → AreKeys (drop n ks)
AreKeys-drop (suc n) (key ∷ ks) are = AreKeys-drop n ks are.2
AreKeys-drop _ _ are = grind arith

differs : (low key : List ℕ) → slice_cmp nat_cmp low key ≡ Less → key ≢ low
differs low key less same =
    let own : slice_cmp nat_cmp low low ≡ Less = ap (λ (k : List ℕ). slice_cmp nat_cmp low k) (sym same) ∙ less in
    cc (own, nat_list_cmp_total.antisymm low low ∙ ap ordering_reverse own)

-- a name below the first key is none of them
below_all : (name : List ℕ) (ks : List (List ℕ)) → AreKeys ks → IsBelowFirst name ks → IsNoneOf name ks
below_all name [] are below = tt
below_all name (key ∷ ks) are below = (differs name key below, below_all name ks are.2 (below_next name key ks below are.1))

below_later : (low : List ℕ) (n : ℕ) (ks : List (List ℕ)) (key : List ℕ) (back : List (List ℕ)) → AreKeys ks → IsBelowFirst low ks
    → drop n ks ≡ key ∷ back → slice_cmp nat_cmp low key ≡ Less
below_later low zero ks key back are below is = grind arith
below_later low (suc n) [] key back are below is = absurd (cc is)
below_later low (suc n) (k ∷ ks) key back are below is = below_later low n ks key back are.2 (below_next low k ks below are.1) is

-- a key below one that the name is not below is below the name
below_name : (low key name : List ℕ) → slice_cmp nat_cmp low key ≡ Less → slice_cmp nat_cmp name key ≢ Less → slice_cmp nat_cmp low name ≡ Less
below_name low key name less other = by (slice_cmp nat_cmp name key) refl
  where
    by : (o : Ordering) → slice_cmp nat_cmp name key ≡ o → slice_cmp nat_cmp low name ≡ Less
    by o is = grind (arith, nat_list_cmp_total)

-- if a name is not below a key, those before the key are below the name
below_before : (name : List ℕ) (n : ℕ) (ks : List (List ℕ)) (key : List ℕ) (back : List (List ℕ)) → AreKeys ks → drop n ks ≡ key ∷ back
    → slice_cmp nat_cmp name key ≢ Less → AreBelow name (take n ks)
below_before name (suc n) (k ∷ ks) key back are is other = grind (arith, below_before name n ks key back are.2 is other, below_later, below_name)
below_before name _ _ key back are is other = grind arith

pub AreBelow-both : (name : List ℕ) (front back : List (List ℕ)) → AreBelow name front → AreBelow name back → AreBelow name (front ++ back)
AreBelow-both name [] back below others = others
AreBelow-both name (key ∷ front) back below others = (below.0, AreBelow-both name front back below.1 others)

none_below : (name : List ℕ) (ks : List (List ℕ)) → AreBelow name ks → IsNoneOf name ks
none_below name [] below = tt
none_below name (key ∷ ks) below = (λ e. differs key name below.0 (sym e), none_below name ks below.1)

-- ---- words and bytes of a block

words_split : (n : ℕ) (ks : List (List ℕ)) → n ≤ length ks
    → (take (4 * n) (key_words ks) ≡ key_words (take n ks)) × (drop (4 * n) (key_words ks) ≡ key_words (drop n ks))
words_split (suc n) (key ∷ ks) enough =
    let four : 4 * suc n ≡ suc (suc (suc (suc (4 * n)))) = omega arith in
    let others = words_split n ks (omega (arith, enough)) in
    search arith
words_split _ _ enough = grind arith

bytes_split : (n : ℕ) (ks : List (List ℕ)) (rest : List ℕ) → key_bytes ks ++ rest ≡ key_bytes (take n ks) ++ (key_bytes (drop n ks) ++ rest)
bytes_split (suc n) (key ∷ ks) rest = grind (arith, bytes_split n ks rest, append_assoc)
bytes_split _ _ rest = grind arith

module _ (n : ℕ) (ks : List (List ℕ)) (words bytes rest : List ℕ) (h : HoldKeys ks words bytes rest) where
  counted : length words ≡ 4 * length ks
  counted = ap length h.words_joined ∙ length-key_words ks

  -- fewer keys than a block
  pub none_behind : (name : List ℕ) → length words < 4 * n → IsNoneOf name (drop n ks)
  none_behind name h = grind (arith, drop_all, counted)

  module _ (enough : 4 * n ≤ length words) where
    split : (take (4 * n) (key_words ks) ≡ key_words (take n ks)) × (drop (4 * n) (key_words ks) ≡ key_words (drop n ks))
    split = words_split n ks (omega (arith, enough, counted))

    -- the keys of the block precede the others
    pub block_before : StandBefore (take n ks) (take (4 * n) words) bytes (key_bytes (drop n ks) ++ rest)
    block_before = search (rules, keys_before, AreKeys-take, split, bytes_split)

    -- the bytes of the others follow those of the block
    pub bytes_after : (block : List ℕ) (len : ℕ) (r : Option (Bor (List ℕ))) → block ≡ take (4 * n) words
        → ((parts : List (List ℕ)) (contents left : List ℕ) → StandBefore parts block contents left → len + length left ≡ length contents)
        → IsGetRangeResult bytes len (length bytes) r → IsSomeAnd r (λ x. x.now ≡ key_bytes (drop n ks) ++ rest)
    bytes_after block len r is sum cut = grind (arith, common_steps, StandBefore-joined, block_before, IsPart-some, is)

    module _ (other_words other_bytes : List ℕ) (words_are : other_words ≡ drop (4 * n) words)
        (bytes_are : other_bytes ≡ key_bytes (drop n ks) ++ rest) where
      others : HoldKeys (drop n ks) other_words other_bytes rest
      others = search (arith, AreKeys-drop n ks h.are_keys, words_are, split.1, bytes_are)

      -- no key is after the block
      pub no_other : (name : List ℕ) → ((kind : ℕ) (key ws cs : List ℕ) → BeginWith other_words other_bytes kind key ws cs → ⊥) → IsNoneOf name (drop n ks)
      no_other name none = go (drop n ks) others
        where
          go : (back : List (List ℕ)) → HoldKeys back other_words other_bytes rest → IsNoneOf name back
          go [] holds = tt
          go (key ∷ back) holds =
              absurd (none 1 key _ _ (begin_key other_words other_bytes rest key back holds.are_keys.0.1 holds.words_joined holds.bytes_joined))

      module _ (name : List ℕ) (kind : ℕ) (key ws cs : List ℕ) (b : BeginWith other_words other_bytes kind key ws cs) where
        -- the name is below the keys after the block
        pub below_others : slice_cmp nat_cmp name key ≡ Less → IsNoneOf name (drop n ks)
        below_others less =
            let (tail, is, holds) = first_key other_words other_bytes kind key ws cs b (drop n ks) rest others in
            below_all name (drop n ks) (AreKeys-drop n ks h.are_keys) (rw is less)

        -- the name is above the keys of the block
        pub block_skipped : slice_cmp nat_cmp name key ≢ Less → KeysLeft (AreBelow name) ks rest other_words other_bytes
        block_skipped other = search (arith, first_key other_words other_bytes kind key ws cs b (drop n ks) rest others, take-append-drop, below_before, others)

-- ---- the block that a name would be in

-- of the keys after these the first n are not needed
IsNoneOf-all : (name : List ℕ) (n : ℕ) (front back : List (List ℕ)) → n ≤ length front → IsNoneOf name front → IsNoneOf name (drop n (front ++ back))
    → IsNoneOf name (front ++ back)
IsNoneOf-all name zero front back enough first others = others
IsNoneOf-all name (suc n) [] back enough first others = absurd (omega (arith, enough))
IsNoneOf-all name (suc n) (key ∷ front) back enough first others = (first.0, IsNoneOf-all name n front back (omega (arith, enough)) first.1 others)

-- keys that are left after keys that are left
abbrev pub KeysLeft-further : (name : List ℕ) (ks : List (List ℕ)) (rest words bytes other_words other_bytes : List ℕ)
    (l : KeysLeft (AreBelow name) ks rest words bytes) → KeysLeft (AreBelow name) l.back rest other_words other_bytes
    → KeysLeft (AreBelow name) ks rest other_words other_bytes
KeysLeft-further name ks rest words bytes other_words other_bytes l h = record {
  front = l.front ++ h.front;
  back = h.back;
  joined = l.joined ∙ ap (λ (k : List (List ℕ)). l.front ++ k) h.joined ∙ sym (append_assoc l.front h.front h.back);
  first = AreBelow-both name l.front h.front l.first h.first;
  behind = h.behind;
}

pub block_among : (name : List ℕ) (n : ℕ) (ks : List (List ℕ)) (rest words bytes : List ℕ) (l : KeysLeft (AreBelow name) ks rest words bytes)
    (r : Result (Bor (List ℕ) × Bor (List ℕ)) Error) → IsOkAnd r (λ b. IsBlockOf n name l.back rest b.0.now b.1.now)
    → IsOkAnd r (λ b. IsBlockOf n name ks rest b.0.now b.1.now)
block_among name n ks rest words bytes l (Ok b) h = record {
  left = KeysLeft-further name ks rest words bytes b.0.now b.1.now l h.left;
  others = h.others;
}
block_among name n ks rest words bytes l (Err e) h = absurd h

-- what is found among the keys that are left is found among all
found_left : (name : List ℕ) (ks : List (List ℕ)) (rest words bytes : List ℕ) (l : KeysLeft (AreBelow name) ks rest words bytes)
    (found : Option (Bor (List ℕ) × Bor (List ℕ))) → FindsKey name l.back rest found → FindsKey name ks rest found
found_left name ks rest words bytes l None none = rw l.joined (IsNoneOf-both name l.front l.back (none_below name l.front l.first) none)
found_left name ks rest words bytes l (Some r) f = record {
  front = l.front ++ f.front;
  back = f.back;
  joined = l.joined ∙ ap (λ (k : List (List ℕ)). l.front ++ k) f.joined ∙ sym (append_assoc l.front f.front (name ∷ f.back));
  first = IsNoneOf-both name l.front f.front (none_below name l.front l.first) f.first;
  behind = f.behind;
}

pub found_among : (name : List ℕ) (ks : List (List ℕ)) (rest words bytes : List ℕ) (l : KeysLeft (AreBelow name) ks rest words bytes)
    (r : Result (Option (Bor (List ℕ) × Bor (List ℕ))) Error) → IsOkAnd r (λ found. FindsKey name l.back rest found)
    → IsOkAnd r (λ found. FindsKey name ks rest found)
found_among name ks rest words bytes l (Ok found) h = found_left name ks rest words bytes l found h
found_among name ks rest words bytes l (Err e) h = absurd h

-- a whole block was searched, or all keys
pub block_searched : (name : List ℕ) (n at : ℕ) (ks : List (List ℕ)) (words bytes rest other_bytes : List ℕ) → HoldKeys ks words bytes rest
    → KeysLeft (IsNoneOf name) ks rest (drop (4 * at) words) other_bytes → IsNoneOf name (drop n ks) → (4 * at + 4 ≤ length words → n ≤ at) → IsNoneOf name ks
block_searched name n at ks words bytes rest other_bytes h l others whole = by (cases_lt (length words) (4 * at + 4))
  where
    by : (length words < 4 * at + 4) ⊎ (4 * at + 4 ≤ length words) → IsNoneOf name ks
    by (inl few) = KeysLeft-end name ks rest _ _ (omega (arith, few, length-drop (4 * at) words)) l
    by (inr more) =
        let all = ap length h.words_joined ∙ length-key_words ks in
        let left = ap length l.behind.words_joined ∙ length-key_words l.back in
        let enough : n ≤ length l.front =
        omega (arith, whole more, all, left, length-drop (4 * at) words, ap length l.joined, length-append l.front l.back, more) in
        rw l.joined (IsNoneOf-all name n l.front l.back enough l.first (rw (← l.joined) others))

-- ---- the position of a name

pub found_at : (name : List ℕ) (ks : List (List ℕ)) (words bytes rest others other_bytes : List ℕ) → HoldKeys ks words bytes rest
    → FoundKey name ks rest others other_bytes → IsFoundAt name ks (Some ((length words - length others) / 4 - 1))
found_at name ks words bytes rest others other_bytes h f = search (rules, others, length-key_words, length-append)

module _ (name : List ℕ) (ks : List (List ℕ)) (words bytes rest left left_bytes : List ℕ) (h : HoldKeys ks words bytes rest)
    (l : KeysLeft (AreBelow name) ks rest left left_bytes) where
  -- the number of keys before those that are left
  passed : (length words - length left) / 4 ≡ length l.front
  passed = grind (arith, common_steps, length-key_words, length-append)

  module _ (kind : ℕ) (key ws bs : List ℕ) (b : BeginWith left left_bytes kind key ws bs) where
    pub position_after : slice_cmp nat_cmp key name ≡ Less → KeysLeft (AreBelow name) ks rest ws bs
    position_after less =
        KeysLeft-step _ _ _ _ _ _ b (AreBelow name) ks rest l (AreBelow-both name l.front (key ∷ []) l.first (less, tt))

    pub position_found : slice_cmp nat_cmp key name ≡ Equal → IsKeyPosition name ks (Found ((length words - length left) / 4))
    position_found equal =
        let (others, is, holds) = first_key left left_bytes kind key ws bs b l.back rest l.behind in
        let same = ap (λ (k : List ℕ). l.front ++ k ∷ others) (bytes_eq-true key name (equal_key key name equal)) in
        (l.front, others, passed, l.joined ∙ ap (λ (k : List (List ℕ)). l.front ++ k) is ∙ same, l.first)

    pub position_missing : slice_cmp nat_cmp key name ≡ Greater → IsKeyPosition name ks (Missing ((length words - length left) / 4))
    position_missing greater =
        let (others, is, holds) = first_key left left_bytes kind key ws bs b l.back rest l.behind in
        (l.front, l.back, passed, l.joined, l.first, rw is (above key name greater))

  pub position_last : ((kind : ℕ) (key ws bs : List ℕ) → BeginWith left left_bytes kind key ws bs → ⊥)
      → IsKeyPosition name ks (Missing ((length words - length left) / 4))
  position_last none = (l.front, l.back, passed, l.joined, l.first, go l.back l.behind)
    where
      go : (back : List (List ℕ)) → HoldKeys back left left_bytes rest → IsBelowFirst name back
      go [] holds = tt
      go (key ∷ back) holds = absurd (none 1 key _ _ (begin_key left left_bytes rest key back holds.are_keys.0.1 holds.words_joined holds.bytes_joined))
