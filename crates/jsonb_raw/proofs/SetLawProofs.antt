-- The laws of arrays as sets, counted by value; hashes of trees that are equal by value.
use Rattle.jsonb_raw.proofs.Common.{◌≡◌, ◌≢◌, ◌↔◌, ◌+◌, ◌-◌, ◌<◌, ◌≤◌, ℕ, min, Bool, true, false, not, ◌||◌, cond, List, [], ◌∷◌, map, filter, nat_lt, IsTrue, inl, inr, refl, sym, ap, ap₂, ◌∙◌, arith, IsPartialEquivalence, partial_equiv_from_equiv, list_any, nat_tests, sum_by-cons, Tree, is_equal, is_equal_equiv, Occurrence, is_first, count_of, occurrences, is_shared, distinct, intersection_of, difference_of, overlap, IsPartitionedInto, same_test, ◌%◌, ◌&&◌, length, slice_index_or, slice_set, length-set, true≢false, bytes_eq, eq_by_cmp, int_cmp, and_parts, get_or-set_at, int_ranked, bytes_eq-Decides, Number, number_cmp, common, at_common, are_equal, pairs_are_equal, null, boolean, number, text, extension, array, object, Trees, no_trees, tree, Pairs, no_pairs, pair, values, mixed, value_hash, hash_word, hash_bit, other_bits, HasBits, IsIn, IsPartHash, AreHashed, IsHashOf, ◌⊎◌, ◌^◌, and_or_self, bit_at_and, bit_at_or, same_from_bits, cases_eq, get_or-set_other}
use Rattle.std.specs.Prelude.{bit_and, bit_or}
use Rattle.std.specs.Int.{bit_at}

-- ---- a test and its opposite deal

-- the elements that pass a test, after the elements `before`
abbrev kept_behind : (Occurrence → Bool) → List Tree → List Tree → List Tree
kept_behind test before ts = map (λ o. o.1) (filter test (occurrences before ts))

tests_deal : (test : Occurrence → Bool) (before ts : List Tree) → IsPartitionedInto ts (kept_behind test before ts) (kept_behind (λ o. not (test o)) before ts)
tests_deal test before [] = (refl, refl)
tests_deal test before (t ∷ ts) = by (test (before, t)) (tests_deal test (t ∷ before) ts)
  where
    yes : List Occurrence
    yes = filter test (occurrences (t ∷ before) ts)

    no : List Occurrence
    no = filter (λ o. not (test o)) (occurrences (t ∷ before) ts)

    by : (b : Bool) → IsPartitionedInto ts (map (λ o. o.1) yes) (map (λ o. o.1) no)
        → IsPartitionedInto (t ∷ ts) (map (λ o. o.1) (cond b ((before, t) ∷ yes) yes)) (map (λ o. o.1) (cond (not b) ((before, t) ∷ no) no))
    by true h = inl (map (λ o. o.1) yes, refl, h)
    by false h = inr (map (λ o. o.1) no, refl, h)

pub split_deals : (ts other : List Tree) → IsPartitionedInto ts (intersection_of ts other) (difference_of ts other)
split_deals ts other = tests_deal (is_shared other) [] ts

-- ---- counts by value

equal_per : IsPartialEquivalence is_equal
equal_per = partial_equiv_from_equiv is_equal_equiv

-- equal trees equal the same ones
alike : (u t v : Tree) → is_equal t v ≡ true → is_equal u t ≡ is_equal u v
alike u t v e =
    same_test (is_equal u t) (is_equal u v)
    (λ h. equal_per.trans u t v h e)
    (λ h. equal_per.trans u v t h (equal_per.symm v t ∙ e))

pub count-cons : (t x : Tree) (ts : List Tree) → count_of t (x ∷ ts) ≡ cond (is_equal x t) 1 0 + count_of t ts
count-cons t x ts = sum_by-cons (λ u. cond (is_equal u t) 1 0) x ts

-- equal trees are counted alike
pub same_counts : (t v : Tree) (ts : List Tree) → is_equal t v ≡ true → count_of t ts ≡ count_of v ts
same_counts t v [] e = refl
same_counts t v (x ∷ ts) e = cc (count-cons t x ts, alike x t v e, same_counts t v ts e, count-cons v x ts)

dealt_counts : (t : Tree) (zs xs ys : List Tree) → IsPartitionedInto zs xs ys → count_of t xs + count_of t ys ≡ count_of t zs
dealt_counts t [] xs ys h = rw (h.0, h.1) refl
dealt_counts t (z ∷ zs) xs ys (inl h) =
    let rest = dealt_counts t zs h.0 ys h.2 in
    rw h.1 (let front = count-cons t z h.0 in let back = count-cons t z zs in omega arith)
dealt_counts t (z ∷ zs) xs ys (inr h) =
    let rest = dealt_counts t zs xs h.0 h.2 in
    rw h.1 (let front = count-cons t z h.0 in let back = count-cons t z zs in omega arith)

-- one element more, which is equal to the counted value or not, and is kept or not
step : (equal keeps : Bool) (before left found limit : ℕ) → (equal ≡ true → keeps ≡ nat_lt before limit)
    → found + min (cond equal 1 0 + before) limit ≡ min (cond equal 1 0 + before + left) limit
    → cond keeps (cond equal 1 0 + found) found + min before limit ≡ min (before + (cond equal 1 0 + left)) limit
step true true before left found limit told h = let e : true
    ≡ nat_lt before limit = told refl in let below : before < limit = grind (arith, nat_tests) in omega arith
step true false before left found limit told h = let e : false
    ≡ nat_lt before limit = told refl in let above : limit ≤ before = grind (arith, nat_tests) in omega arith
step false true before left found limit told h = omega arith
step false false before left found limit told h = omega arith

-- If a test keeps a value up to a limit, that is how often it is kept.
module _ (test : Occurrence → Bool) (limit : Tree → ℕ)
    (told : (before : List Tree) (x : Tree) → test (before, x) ≡ nat_lt (count_of x before) (limit x))
    (same : (x t : Tree) → is_equal x t ≡ true → limit x ≡ limit t) where
  kept_counts : (t : Tree) (before ts : List Tree)
      → count_of t (kept_behind test before ts) + min (count_of t before) (limit t) ≡ min (count_of t before + count_of t ts) (limit t)
  kept_counts t before [] = omega arith
  kept_counts t before (x ∷ ts) =
      let rest : count_of t (kept_behind test (x ∷ before) ts) + min (count_of t (x ∷ before)) (limit t)
      ≡ min (count_of t (x ∷ before) + count_of t ts) (limit t) = kept_counts t (x ∷ before) ts in
      let more : count_of t (kept_behind test (x ∷ before) ts) + min (cond (is_equal x t) 1 0 + count_of t before) (limit t)
      ≡ min (cond (is_equal x t) 1 0 + count_of t before + count_of t ts) (limit t) = rw (← count-cons t x before) rest in
      ap (λ n. n + min (count_of t before) (limit t)) (front (test (before, x)))
      ∙ step (is_equal x t) (test (before, x)) (count_of t before) (count_of t ts) (count_of t (kept_behind test (x ∷ before) ts)) (limit t)
      (λ e. told before x ∙ ap₂ nat_lt (same_counts x t before e) (same x t e)) more
      ∙ ap (λ n. min (count_of t before + n) (limit t)) (sym (count-cons t x ts))
    where
      others : List Occurrence
      others = filter test (occurrences (x ∷ before) ts)

      front : (b : Bool) → count_of t (map (λ o. o.1) (cond b ((before, x) ∷ others) others))
          ≡ cond b (cond (is_equal x t) 1 0 + count_of t (map (λ o. o.1) others)) (count_of t (map (λ o. o.1) others))
      front true = count-cons t x (map (λ o. o.1) others)
      front false = refl

pub shared_counts : (ts other : List Tree) (t : Tree) → count_of t (intersection_of ts other) ≡ min (count_of t ts) (count_of t other)
shared_counts ts other t =
    let h = kept_counts (is_shared other) (λ x. count_of x other) (λ before x. refl) (λ x v e. same_counts x v other e) t [] ts in
    omega (arith, h)

pub difference_counts : (ts other : List Tree) (t : Tree) → count_of t (difference_of ts other) ≡ count_of t ts - count_of t other
difference_counts ts other t =
    let both = shared_counts ts other t in
    let all = dealt_counts t ts (intersection_of ts other) (difference_of ts other) (split_deals ts other) in
    omega arith

pub distinct_counts : (ts : List Tree) (t : Tree) → count_of t (distinct ts) ≡ min (count_of t ts) 1
distinct_counts ts t =
    let h = kept_counts is_first (λ x. 1) (λ before x. grind (arith, nat_tests)) (λ x v e. refl) t [] ts in
    omega (arith, h)

-- ---- overlap

-- a tree is counted if it occurs
counted : (t x : Tree) (ts : List Tree) → is_equal x t ≡ true → 0 < count_of t (x ∷ ts)
counted t x ts e = grind (arith, count-cons t x ts, e)

-- some tree equals it if and only if it is counted
any_from_count : (t : Tree) (ts : List Tree) → 0 < count_of t ts → list_any (λ u. is_equal t u) ts ≡ true
any_from_count t [] h = absurd (omega (arith, h))
any_from_count t (x ∷ ts) h = grind (arith, equal_per.symm t x, any_from_count t ts, count-cons t x ts, h)

count_from_any : (t : Tree) (ts : List Tree) → list_any (λ u. is_equal t u) ts ≡ true → 0 < count_of t ts
count_from_any t [] h = absurd (cc)
count_from_any t (x ∷ ts) h = grind (arith, equal_per.symm t x, count_from_any t ts, count-cons t x ts, h)

-- a value that both lists have
pub record HasBoth (ts other : List Tree) : Type 0 where
  pub value : Tree
  pub first : 0 < count_of value ts
  pub second : 0 < count_of value other

overlap_value : (ts other : List Tree) → overlap ts other ≡ true → HasBoth ts other
overlap_value [] other h = absurd (cc)
overlap_value (x ∷ ts) other h = by (list_any (λ u. is_equal x u) other) refl (overlap_value ts other) h
  where
    by : (b : Bool) → list_any (λ u. is_equal x u) other ≡ b → (overlap ts other ≡ true → HasBoth ts other) → (b || overlap ts other) ≡ true
        → HasBoth (x ∷ ts) other
    by true e rest h' = record { value = x; first = counted x x ts (is_equal_equiv.refl x); second = count_from_any x other e }
    by false e rest h' =
        let v = rest h' in
        record { value = v.value; first = omega (arith, count-cons v.value x ts, v.first); second = v.second }

value_overlaps : (ts other : List Tree) (t : Tree) → 0 < count_of t ts → 0 < count_of t other → overlap ts other ≡ true
value_overlaps [] other t h k = absurd (omega (arith, h))
value_overlaps (x ∷ ts) other t h k = by (is_equal x t) refl (λ h'. value_overlaps ts other t h' k)
  where
    by : (b : Bool) → is_equal x t ≡ b → (0 < count_of t ts → overlap ts other ≡ true) → (list_any (λ u. is_equal x u) other || overlap ts other) ≡ true
    by true e rest =
        let same = same_counts x t other e in
        let here : list_any (λ u. is_equal x u) other ≡ true = any_from_count x other (omega arith) in
        ap (λ b. b || overlap ts other) here
    by false e rest =
        let behind : 0 < count_of t ts = grind (arith, count-cons t x ts, e, h) in
        rw (rest behind) (grind arith)

pub overlap_is_shared : (ts other : List Tree) → IsTrue (overlap ts other) ↔ (intersection_of ts other ≢ [])
overlap_is_shared ts other = (
  λ h none. let v = overlap_value ts other h in
      let c : count_of v.value (intersection_of ts other) ≡ min (count_of v.value ts) (count_of v.value other) = shared_counts ts other v.value in
      let z : count_of v.value (intersection_of ts other) ≡ 0 = ap (count_of v.value) none in
      omega (arith, c, z, v.first, v.second),
  λ some. by (intersection_of ts other) (λ t. shared_counts ts other t) some,
)
  where
    by : (xs : List Tree) → ((t : Tree) → count_of t xs ≡ min (count_of t ts) (count_of t other)) → xs ≢ [] → overlap ts other ≡ true
    by [] counts some = absurd (some refl)
    by (x ∷ xs) counts some =
        let there : 0 < count_of x (x ∷ xs) = counted x x xs (is_equal_equiv.refl x) in
        let c : count_of x (x ∷ xs) ≡ min (count_of x ts) (count_of x other) = counts x in
        value_overlaps ts other x (omega arith) (omega arith)

-- numbers of one value have one hash
numbers_marked : (n k : Number) (a b : ℕ) → eq_by_cmp number_cmp n k ≡ true → IsPartHash (number n) a → IsPartHash (number k) b → a ≡ b
unfolding common
numbers_marked n k a b same p q =
    let scaled : number_cmp n k ≡ int_cmp (common n 9) (common k 9) = at_common n k 9 p.0 q.0 in
    let one : common n 9 ≡ common k 9 = grind (arith, int_ranked, rw scaled at same, refl) in
    p.1 ∙ ap value_hash one ∙ sym q.1

-- trees that are equal by value have one hash in a container
one_part_hash : (t u : Tree) (a b : ℕ) → is_equal t u ≡ true → IsPartHash t a → IsPartHash u b → a ≡ b
one_part_hash t u a b h k e = grind (arith, numbers_marked, bytes_eq-Decides)

lists_hashed : (ts us : Trees) (before a b : ℕ) → are_equal ts us ≡ true → AreHashed ts before a → AreHashed us before b → a ≡ b
lists_hashed no_trees no_trees before a b e p q = p ∙ sym q
lists_hashed (tree t ts) (tree u us) before a b e p q =
    let same = and_parts (is_equal t u) (are_equal ts us) e in
    let one : p.0 ≡ q.0 = one_part_hash t u p.0 q.0 same.0 p.1 q.1 in
    lists_hashed ts us ((mixed before + q.0) % 2 ^ 64) a b same.1 (rw one at p.2) q.2
lists_hashed ts us before a b e p q = absurd (true≢false (sym e))

equal_values : (ps qs : Pairs) → pairs_are_equal ps qs ≡ true → are_equal (values ps) (values qs) ≡ true
equal_values no_pairs no_pairs e = refl
equal_values (pair k t ps) (pair l u qs) e =
    let first = and_parts (bytes_eq k l && is_equal t u) (pairs_are_equal ps qs) e in
    rw (and_parts (bytes_eq k l) (is_equal t u) first.0).1 (equal_values ps qs first.1)
equal_values ps qs e = absurd (true≢false (sym e))

-- trees that are equal by value have one hash
pub one_hash : (t u : Tree) (a b : ℕ) → is_equal t u ≡ true → IsHashOf t a → IsHashOf u b → a ≡ b
one_hash null null a b e p q = one_part_hash null null a b e p q
one_hash (boolean true) (boolean true) a b e p q = one_part_hash (boolean true) (boolean true) a b e p q
one_hash (boolean false) (boolean false) a b e p q = one_part_hash (boolean false) (boolean false) a b e p q
one_hash (number n) (number k) a b e p q = one_part_hash (number n) (number k) a b e p q
one_hash (text s) (text r) a b e p q = one_part_hash (text s) (text r) a b e p q
one_hash (extension x) (extension y) a b e p q = one_part_hash (extension x) (extension y) a b e p q
one_hash (array ts) (array us) a b e p q = lists_hashed ts us 5 a b e p q
one_hash (object ps) (object qs) a b e p q = lists_hashed (values ps) (values qs) 5 a b (equal_values ps qs e) p q
one_hash t u a b e p q = absurd (true≢false (sym e))

-- ---- hashes in a set

-- bits of a word stay if others are set
bits_stay : (a b c : ℕ) → bit_and a c ≡ c → bit_and (bit_or a b) c ≡ c
bits_stay a b c h =
    same_from_bits (bit_and (bit_or a b) c) c
    (λ i. let kept : min (bit_at a i) (bit_at c i) ≡ bit_at c i = sym (bit_at_and a c i) ∙ ap (λ n. bit_at n i) h in
    omega (arith, bit_at_and (bit_or a b) c i, bit_at_or a b i, kept))

module _ (words : List ℕ) (k : ℕ) (within : hash_word (length words) k < length words) where
  abbrev place : ℕ
  place = hash_word (length words) k

  abbrev before : ℕ
  before = bit_or (slice_index_or words place 0) (hash_bit k 46)

  abbrev after : ℕ
  after = bit_or before (other_bits k)

  abbrev added : List ℕ
  added = slice_set words place after

  -- a tree whose hash was in the set is in it
  pub hash_stays : (t : Tree) → IsIn words t → IsIn added t
  hash_stays t h = record { bits = λ m hashed. rw (length-set words place after) (by m (h.bits m hashed) (cases_eq (hash_word (length words) m) place)) }
    where
      stay : (bits : ℕ) → bit_and (slice_index_or words place 0) bits ≡ bits → bit_and after bits ≡ bits
      stay bits e = bits_stay before (other_bits k) bits (bits_stay (slice_index_or words place 0) (hash_bit k 46) bits e)

      by : (m : ℕ) → HasBits words m → (hash_word (length words) m ≡ place) ⊎ (hash_word (length words) m ≡ place → ⊥)
          → (bit_and (slice_index_or added (hash_word (length words) m) 0) (hash_bit m 46) ≡ hash_bit m 46)
          × (bit_and (slice_index_or added (hash_word (length words) m) 0) (other_bits m) ≡ other_bits m)
      by m bits (inl same) =
          rw (get_or-set_at words place (hash_word (length words) m) after 0 same within)
          (stay (hash_bit m 46) (rw same at bits.0), stay (other_bits m) (rw same at bits.1))
      by m bits (inr other) = rw (get_or-set_other words place (hash_word (length words) m) after 0 other) bits

  -- that of a tree that equals the one whose hash was added is in it
  pub hash_taken : (t u : Tree) → IsHashOf u k → is_equal t u ≡ true → IsIn added t
  hash_taken t u q e = record {
    bits = λ m hashed.
        let one : m ≡ k = one_hash t u m k e hashed q in
        rw (length-set words place after, one, get_or-set_at words place place after 0 refl within)
        (bits_stay before (other_bits k) (hash_bit k 46) (and_or_self (hash_bit k 46) _), and_or_self (other_bits k) before);
  }
