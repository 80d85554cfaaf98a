-- Sorted members without duplicate keys are those that are inserted one after the other.
use Rattle.jsonb_doc.proofs.Common.{◌≡◌, ℕ, suc, ◌≤◌, List, [], ◌∷◌, length, map, refl, sym, ap, subst, ◌∙◌, arith, Bool, true, false, cond, Some, None, Option, Ordering, Less, Equal, Greater, nat_cmp, filter, unwrap_or, Result, OnOk, if◌then◌else◌, not, ◌&&◌, ⊤, AllByRecursion, IsSortedBy, IsStableBy, IsStrictlySortedBy, ties, keys_of, lookup, is_at, is_lt, is_eq, ordering_reverse, slice_cmp, nat_list_cmp_total, nil_from_length, is_eq-slice_cmp, has_key, insert_pair, insert_all, AreSortedKeys, has_lower_key, unique, as_pair, is_below_first, Part, Nested, Member, common_steps}
use Rattle.jsonb_doc.specs.declared.layout.HeaderKind.TheVariants.{Array}
use Rattle.jsonb_doc.proofs.Basics.{same_from_bytes_cmp as equal_key, bytes_cmp_refl as self_equal}

abbrev cmp : List ℕ → List ℕ → Ordering
cmp = slice_cmp nat_cmp

-- ---- orders

turned : (a b : List ℕ) (o : Ordering) → cmp a b ≡ o → cmp b a ≡ ordering_reverse o
turned a b o e = nat_list_cmp_total.antisymm b a ∙ ap ordering_reverse e

-- both sides of a test by the order of two keys
same_test : (a b : List ℕ) → is_eq (cmp a b) ≡ is_eq (cmp b a)
same_test a b = grind (arith, common_steps, turned)

pub none_rise : IsStrictlySortedBy cmp []
unfolding IsStrictlySortedBy
none_rise = tt

-- ---- what is found at a key

module _ {A : Type 0} where
  abbrev found : List (List ℕ × A) → List ℕ → Option A
  found ps q = lookup (is_at (cmp q)) ps

  apart : (key : List ℕ) (x : A) (p : List ℕ × A) (ps : List (List ℕ × A)) (q : List ℕ) → cmp key p.0 ≡ Greater → (a b : Ordering) → cmp q p.0 ≡ a → cmp q key ≡ b
      → cond (is_eq a) (Some p.1) (cond (is_eq b) (Some x) (found ps q)) ≡ cond (is_eq b) (Some x) (cond (is_eq a) (Some p.1) (found ps q))
  apart key x p ps q e Equal Equal f g = cc (e, ap (cmp key) (sym (equal_key q p.0 f) ∙ equal_key q key g), self_equal key)
  apart key x p ps q e a b f g = grind arith

  -- of a pair that is inserted
  found_inserted : (key : List ℕ) (x : A) (ps : List (List ℕ × A)) (q : List ℕ)
      → found (insert_pair key x ps) q ≡ cond (is_eq (cmp q key)) (Some x) (found ps q)
  found_inserted key x [] q = refl
  found_inserted key x (p ∷ ps) q = grind (arith, found_inserted key x ps q, equal_key, apart)

  -- The value that is inserted last at a key, or `o`.
  abbrev last_at : List ℕ → Option A → List (List ℕ × A) → Option A
  last_at k o [] = o
  last_at k o (p ∷ ps) = last_at k (cond (is_eq (cmp k p.0)) (Some p.1) o) ps

  found_all : (ps qs : List (List ℕ × A)) (q : List ℕ) → found (insert_all ps qs) q ≡ last_at q (found ps q) qs
  found_all ps [] q = refl
  found_all ps (p ∷ qs) q = grind (arith, found_all (insert_pair p.0 p.1 ps) qs q, found_inserted)

  -- ---- pairs in order

  abbrev Rise : List (List ℕ × A) → Type 0
  Rise ps = IsStrictlySortedBy cmp (keys_of ps)

  abbrev AllAbove : List ℕ → List (List ℕ × A) → Type 0
  AllAbove key ps = AllByRecursion (λ k. cmp key k ≡ Less) (keys_of ps)

  above_inserted : (low key : List ℕ) (x : A) (ps : List (List ℕ × A)) → cmp low key ≡ Less → AllAbove low ps → AllAbove low (insert_pair key x ps)
  above_inserted low key x [] less all = (less, tt)
  above_inserted low key x (p ∷ ps) less all = grind (arith, above_inserted low key x ps less all.1)

  above_less : (low key : List ℕ) (ps : List (List ℕ × A)) → cmp low key ≡ Less → AllAbove key ps → AllAbove low ps
  above_less low key [] less all = tt
  above_less low key (p ∷ ps) less all = (nat_list_cmp_total.trans low key p.0 less all.0, above_less low key ps less all.1)

  pub rise_inserted : (key : List ℕ) (x : A) (ps : List (List ℕ × A)) → Rise ps → Rise (insert_pair key x ps)
  unfolding IsStrictlySortedBy
  rise_inserted key x [] rise = (tt, tt)
  rise_inserted key x (p ∷ ps) rise = grind (arith, rise_inserted key x ps rise.1, above_less, above_inserted, turned)

  rise_all : (ps qs : List (List ℕ × A)) → Rise ps → Rise (insert_all ps qs)
  rise_all ps [] rise = rise
  rise_all ps (q ∷ qs) rise = rise_all (insert_pair q.0 q.1 ps) qs (rise_inserted q.0 q.1 ps rise)

  none_above : (key : List ℕ) (ps : List (List ℕ × A)) → AllAbove key ps → found ps key ≡ None
  none_above key [] all = refl
  none_above key (p ∷ ps) all = rw all.0 (none_above key ps all.1)

  -- pairs in order are those that are found
  lone : (p : List ℕ × A) (ps : List (List ℕ × A)) (q : List ℕ × A) (qs : List (List ℕ × A)) → Rise (q ∷ qs)
      → ((k : List ℕ) → found (p ∷ ps) k ≡ found (q ∷ qs) k) → cmp p.0 q.0 ≡ Less → ⊥
  unfolding IsStrictlySortedBy
  lone p ps q qs h e k = grind (arith, self_equal, none_above, above_less)

  tails : (p : List ℕ × A) (ps : List (List ℕ × A)) (q : List ℕ × A) (qs : List (List ℕ × A)) → Rise (p ∷ ps) → Rise (q ∷ qs)
      → ((k : List ℕ) → found (p ∷ ps) k ≡ found (q ∷ qs) k) → p.0 ≡ q.0 → (k : List ℕ) → found ps k ≡ found qs k
  unfolding IsStrictlySortedBy
  tails p ps q qs r s same e k = go (cmp k p.0) refl
    where
      go : (o : Ordering) → cmp k p.0 ≡ o → found ps k ≡ found qs k
      go Equal f =
          let is = equal_key k p.0 f in
          subst (λ (key : List ℕ). found ps key ≡ None) (sym is) (none_above p.0 ps r.0)
          ∙ sym (subst (λ (key : List ℕ). found qs key ≡ None) (sym (is ∙ e)) (none_above q.0 qs s.0))
      go _ f = grind arith

  same_pairs : (ps qs : List (List ℕ × A)) → Rise ps → Rise qs → ((k : List ℕ) → found ps k ≡ found qs k) → ps ≡ qs
  unfolding IsStrictlySortedBy
  same_pairs [] [] r s same = refl
  same_pairs [] (q ∷ qs) r s same = grind (arith, same q.0, self_equal)
  same_pairs (p ∷ ps) [] r s same = grind (arith, same p.0, self_equal)
  same_pairs (p ∷ ps) (q ∷ qs) r s same = go (cmp p.0 q.0) refl (same_pairs ps qs r.1 s.1)
    where
      go : (o : Ordering) → cmp p.0 q.0 ≡ o → (((k : List ℕ) → found ps k ≡ found qs k) → ps ≡ qs) → p ∷ ps ≡ q ∷ qs
      go Less e more = absurd (lone p ps q qs s same e)
      go Greater e more = absurd (lone q qs p ps r (λ k. sym (same k)) (turned p.0 q.0 Greater e))
      go Equal e more =
          let key = equal_key p.0 q.0 e in
          let there : found (p ∷ ps) p.0 ≡ Some p.1 = rw (self_equal p.0) refl in
          let here : found (q ∷ qs) p.0 ≡ Some q.1 = rw e refl in
          let value : p.1 ≡ q.1 = ap (λ (o : Option A). unwrap_or o p.1) (sym there ∙ same p.0 ∙ here) in
          let rest = more (tails p ps q qs r s same key) in
          rw (key, value, rest) refl

  pub all_rise : (qs : List (List ℕ × A)) → Rise (insert_all [] qs)
  all_rise qs = rise_all [] qs none_rise

  has_none : (key : List ℕ) (ps : List (List ℕ × A)) → AllAbove key ps → has_key key ps ≡ false
  has_none key [] all = refl
  has_none key (p ∷ ps) all = search (arith, is_eq-slice_cmp key p.0, ap is_eq all.0, sym (is_eq-slice_cmp key p.0) ∙ ap is_eq all.0, has_none key ps all.1)

  -- a pair that is inserted is one more only if its key is new
  pub one_more : (key : List ℕ) (x : A) (ps : List (List ℕ × A)) → Rise ps → (length (insert_pair key x ps) ≤ suc (length ps))
      × (suc (length ps) ≤ length (insert_pair key x ps) → has_key key ps ≡ false)
  unfolding IsStrictlySortedBy
  one_more key x [] rise = (omega arith, λ le. refl)
  one_more key x (p ∷ ps) rise = grind (arith, one_more key x ps rise.1, has_none key (p ∷ ps), above_less key p.0 ps, is_eq-slice_cmp key p.0)

  -- keys of sorted pairs are in order
  pub sorted_keys : (ps : List (List ℕ × A)) → Rise ps → AreSortedKeys (keys_of ps)
  unfolding IsStrictlySortedBy
  sorted_keys [] rise = tt
  sorted_keys (p ∷ []) rise = (tt, tt)
  sorted_keys (p ∷ q ∷ ps) rise = (rise.0.0, sorted_keys (q ∷ ps) rise.1)

-- ---- members as pairs

-- Holds if no key is below the one before it.
abbrev Ascend : Member → List Member → Type 0
Ascend m [] = ⊤
Ascend m (n ∷ ms) = (has_lower_key n m ≡ false) × Ascend n ms

ascend : (m : Member) (ms : List Member) → IsSortedBy has_lower_key (m ∷ ms) → Ascend m ms
ascend m [] s = tt
ascend m (n ∷ ms) s = (s 0 m (omega arith) (omega arith), ascend n ms (λ k d low high. grind (arith, s (suc k) d)))

below_next : (key : List ℕ) (m n : Member) → cmp key m.key.now ≡ Less → has_lower_key n m ≡ false → cmp key n.key.now ≡ Less
below_next key m n less not_lower = go (cmp n.key.now m.key.now) refl not_lower
  where
    go : (o : Ordering) → cmp n.key.now m.key.now ≡ o → is_lt o ≡ false → cmp key n.key.now ≡ Less
    go Less e ne = absurd (cc)
    go Equal e ne = rw (equal_key n.key.now m.key.now e) less
    go Greater e ne = nat_list_cmp_total.trans key m.key.now n.key.now less (turned n.key.now m.key.now Greater e)

-- a key below all of these is none of them
last_below : (k : List ℕ) (o : Option Part) (m : Member) (ms : List Member) → Ascend m ms → cmp k m.key.now ≡ Less
    → last_at k o (map as_pair (m ∷ ms)) ≡ o
last_below k o m [] up less = ap (λ (r : Ordering). cond (is_eq r) (Some m.part) o) less
last_below k o m (n ∷ ms) up less = grind (arith, last_below k o n ms up.1 (below_next k m n less up.0), below_next)

above_unique : (key : List ℕ) (m : Member) (ms : List Member) → Ascend m ms → cmp key m.key.now ≡ Less
    → AllByRecursion (λ k. cmp key k ≡ Less) (keys_of (map as_pair (unique (m ∷ ms))))
above_unique key m [] up less = (less, tt)
above_unique key m (n ∷ ms) up less = grind (arith, above_unique key n ms up.1 (below_next key m n less up.0), below_next)

less_from : (o : Ordering) → is_lt o ≡ true → o ≡ Less
less_from o h = grind arith

unique_rise : (m : Member) (ms : List Member) → Ascend m ms → IsStrictlySortedBy cmp (keys_of (map as_pair (unique (m ∷ ms))))
unfolding IsStrictlySortedBy
unique_rise m [] up = (tt, tt)
unique_rise m (n ∷ ms) up = grind (arith, unique_rise n ms up.1, above_unique, less_from)

unique_found : (k : List ℕ) (m : Member) (ms : List Member) → Ascend m ms
    → found (map as_pair (unique (m ∷ ms))) k ≡ last_at k None (map as_pair (m ∷ ms))
unique_found k m [] up = refl
unique_found k m (n ∷ ms) up = go (is_lt (cmp m.key.now n.key.now)) refl (unique_found k n ms up.1)
  where
    stays : (o : Ordering) → cmp k m.key.now ≡ o → is_lt (cmp m.key.now n.key.now) ≡ true
        → found (map as_pair (unique (n ∷ ms))) k ≡ last_at k None (map as_pair (n ∷ ms))
        → cond (is_eq o) (Some m.part) (found (map as_pair (unique (n ∷ ms))) k) ≡ last_at k (cond (is_eq o) (Some m.part) None) (map as_pair (n ∷ ms))
    stays Equal e lower rest =
        let less = ap (λ (key : List ℕ). cmp key n.key.now) (equal_key k m.key.now e) ∙ less_from _ lower in
        sym (last_below k (Some m.part) n ms up.1 less)
    stays _ e lower rest = rest

    goes : (o : Ordering) → cmp k m.key.now ≡ o → m.key.now ≡ n.key.now
        → last_at k None (map as_pair (n ∷ ms)) ≡ last_at k (cond (is_eq o) (Some m.part) None) (map as_pair (n ∷ ms))
    goes o h e = grind arith

    go : (b : Bool) → is_lt (cmp m.key.now n.key.now) ≡ b → found (map as_pair (unique (n ∷ ms))) k ≡ last_at k None (map as_pair (n ∷ ms))
        → found (map as_pair (if b then m ∷ unique (n ∷ ms) else unique (n ∷ ms))) k ≡ last_at k None (map as_pair (m ∷ n ∷ ms))
    go true e rest = stays (cmp k m.key.now) refl e rest
    go false e rest = rest ∙ goes (cmp k m.key.now) refl (grind (arith, equal_key, turned))

-- those with other keys do not count
abbrev probe : List ℕ → Member
probe k = record { key = record { ref_ptr = (0, 0); now = k }; part = Nested (record { kind = Array; first = 0; end = 0 }) }

last_tied : (k : List ℕ) (o : Option Part) (ms : List Member)
    → last_at k o (map as_pair ms) ≡ last_at k o (map as_pair (filter (ties has_lower_key (probe k)) ms))
last_tied k o [] = refl
last_tied k o (m ∷ ms) = go (cmp k m.key.now) (cmp m.key.now k) refl (turned k m.key.now _ refl) (λ p. last_tied k p ms)
  where
    go : (a b : Ordering) → cmp k m.key.now ≡ a → b ≡ ordering_reverse a
        → ((p : Option Part) → last_at k p (map as_pair ms) ≡ last_at k p (map as_pair (filter (ties has_lower_key (probe k)) ms)))
        → last_at k (cond (is_eq a) (Some m.part) o) (map as_pair ms)
        ≡ last_at k o (map as_pair (cond (not (is_lt a) && not (is_lt b)) (m ∷ filter (ties has_lower_key (probe k)) ms) (filter (ties has_lower_key (probe k)) ms)))
    go a b h e k = grind arith

-- of sorted members with the same key the last one is the one that is inserted last
pub unique_inserted : (ms ns : List Member) → length ns ≡ length ms → IsSortedBy has_lower_key ns → IsStableBy has_lower_key ms ns
    → map as_pair (unique ns) ≡ insert_all [] (map as_pair ms)
unique_inserted ms [] len sorted stable = rw (nil_from_length ms (sym len)) refl
unique_inserted ms (n ∷ ns) len sorted stable =
    let up = ascend n ns sorted in
    same_pairs (map as_pair (unique (n ∷ ns))) (insert_all [] (map as_pair ms)) (unique_rise n ns up) (all_rise (map as_pair ms))
    (λ k. unique_found k n ns up ∙ last_tied k None (n ∷ ns)
    ∙ ap (λ (xs : List Member). last_at k None (map as_pair xs)) (stable (probe k)) ∙ sym (last_tied k None ms)
    ∙ sym (found_all [] (map as_pair ms) k))

-- ---- fewer members

pub few : (ms : List Member) → length (unique ms) ≤ length ms
few [] = omega arith
few (m ∷ ms) = grind (arith, few ms)

pub same_left : (left : List Member) (m : Member) (others : List Member) → left ≡ m ∷ others → is_below_first m.key.now others ≡ true
    → unique left ≡ m ∷ unique others
same_left left m others is below = ap unique is ∙ ap (λ (b : Bool). if b then m ∷ unique others else unique others) below

-- ---- results

pub on_ok_along : {A E : Type 0} (r : Result A E) (P Q : Type 0) → (P → Q) → OnOk r P → OnOk r Q
on_ok_along r P Q h e = grind arith
