-- The elements that an index entry picks are those between its bounds.
use Rattle.jsonb.proofs.Common.{◌≡◌, ℕ, zero, suc, ◌+◌, ◌-◌, ◌<◌, ◌≤◌, ◌↔◌, ℤ, ◌≤ℤ◌, Bool, true, false, List, [], ◌∷◌, ◌++◌, length, take, drop, filter_map, slice_get, Some, None, refl, sym, ap, ◌∙◌, arith, append-nil, int_le, slice_range, Decides, cons_option, range_with_len, AllZip, ints, Tree, Entry, IsPosition, is_meant, picked_by, picked}
use Rattle.std.proofs.Common.{filter}

-- ---- the test and the relation agree

le_decides : (x y : ℤ) → Decides (int_le x y) (x ≤ℤ y)
le_decides x y = (λ h. grind (arith, ints), λ h. grind (arith, ints))

pub meant_decides : (entry : Entry) (n k : ℕ) → k < n → Decides (is_meant n entry k) (IsPosition entry n k)
meant_decides entry n k h = grind (arith, le_decides)

not_meant : (entry : Entry) (n k : ℕ) (b : Bool) → is_meant n entry k ≡ b → (b ≡ true → ⊥) → is_meant n entry k ≡ false
not_meant entry n k b e wrong = grind arith

-- ---- from a position on

range_with_len-next : (n k : ℕ) → k < n → range_with_len k (n - k) ≡ k ∷ range_with_len (k + 1) (n - (k + 1))
range_with_len-next n k h = let e : n - k ≡ suc (n - (k + 1)) = omega arith in ap (range_with_len k) e

range_with_len-end : (n k : ℕ) → n ≤ k → range_with_len k (n - k) ≡ []
range_with_len-end n k h = let e : n - k ≡ 0 = omega arith in ap (range_with_len k) e

get-drop : {B : Type 0} (ts : List B) (k : ℕ) → k < length ts → (u : B) × (slice_get ts k ≡ Some u) × (drop k ts ≡ u ∷ drop (suc k) ts)
get-drop [] k h = absurd (omega (arith, h))
get-drop (t ∷ ts) zero h = (t, refl, refl)
get-drop (t ∷ ts) (suc k) h = get-drop ts k (omega (arith, h))

module _ {B : Type 0} (ts : List B) (p : ℕ → Bool) (n : ℕ) where
  abbrev rest_from : ℕ → List B
  rest_from k = filter_map (slice_get ts) (filter p (range_with_len k (n - k)))

  rest_taken : (k : ℕ) (u : B) → k < n → p k ≡ true → slice_get ts k ≡ Some u → rest_from k ≡ u ∷ rest_from (k + 1)
  rest_taken k u h is here = grind (arith, range_with_len-next)

  rest_passed : (k : ℕ) → k < n → p k ≡ false → rest_from k ≡ rest_from (k + 1)
  rest_passed k h is = grind (arith, range_with_len-next)

  rest_none : (k : ℕ) → n ≤ k → rest_from k ≡ []
  rest_none k h = ap (λ l. filter_map (slice_get ts) (filter p l)) (range_with_len-end n k h)

  -- so many that are passed over, and so many that are taken
  passed_until : (d k j : ℕ) → k + d ≡ j → j ≤ n → ((i : ℕ) → k ≤ i → i < j → p i ≡ false) → rest_from k ≡ rest_from j
  passed_until zero k j e h none = let same : k ≡ j = omega arith in ap rest_from same
  passed_until (suc d) k j e h none = grind (arith, (passed_until d (k + 1) j (omega arith) h), rest_passed)

  taken_until : (d k j : ℕ) → k + d ≡ j → j ≤ n → n ≡ length ts → ((i : ℕ) → k ≤ i → i < j → p i ≡ true) → rest_from k ≡ take d (drop k ts) ++ rest_from j
  taken_until zero k j e h len all = let same : k ≡ j = omega arith in ap rest_from same
  taken_until (suc d) k j e h len all =
      let here = get-drop ts k (omega arith) in
      let next : k + 1 ≡ suc k = omega arith in
      rest_taken k here.0 (omega arith) (all k (omega arith) (omega arith)) here.1
      ∙ ap (λ l. here.0 ∷ l) (taken_until d (k + 1) j (omega arith) h len (λ i low high. all i (omega arith) high))
      ∙ ap (λ m. here.0 ∷ (take d (drop m ts) ++ rest_from j)) next
      ∙ ap (λ l. take (suc d) l ++ rest_from j) (sym here.2)

  between_bounds : (start end : ℕ) → start ≤ end → end ≤ n → n ≡ length ts →
      ((i : ℕ) → start ≤ i → i < end → p i ≡ true) → ((i : ℕ) → i < start → p i ≡ false) → ((i : ℕ) → end ≤ i → i < n → p i ≡ false) →
      rest_from 0 ≡ take (end - start) (drop start ts)
  between_bounds start end h k len all below above =
      passed_until start 0 start (omega arith) (omega arith) (λ i low high. below i high)
      ∙ taken_until (end - start) start end (omega arith) k len all
      ∙ ap (λ l. take (end - start) (drop start ts) ++ l) (passed_until (n - end) end n (omega arith) (omega arith) above ∙ rest_none n (omega arith))
      ∙ append-nil _

pub picked_between : (entry : Entry) (ts : List Tree) (start end : ℕ) → start ≤ end → end ≤ length ts →
    ((k : ℕ) → k < length ts → ((start ≤ k) × (k < end)) ↔ IsPosition entry (length ts) k) → picked_by entry ts ≡ slice_range ts start end
picked_between entry ts start end h k meant =
    let whole : length ts ≡ length ts - 0 = omega arith in
    ap (λ m. filter_map (slice_get ts) (filter (is_meant (length ts) entry) (range_with_len 0 m))) whole
    ∙ between_bounds ts (is_meant (length ts) entry) (length ts) start end h k refl
    (λ i low high. let short : i < length ts = omega arith in (meant_decides entry (length ts) i short).1 ((meant i short).0 (low, high)))
    (λ i high. let short : i < length ts = omega arith in
    not_meant entry (length ts) i _ refl (λ is. let b = (meant i short).1 ((meant_decides entry (length ts) i short).0 is) in absurd (omega (arith, b.0))))
    (λ i low short. not_meant entry (length ts) i _ refl
    (λ is. let b = (meant i short).1 ((meant_decides entry (length ts) i short).0 is) in absurd (omega (arith, b.1))))

-- ---- related lists, cut at the same places

module _ {A B : Type 0} (R : A → B → Type 0) where
  AllZip-take : (d : ℕ) (xs : List A) (ys : List B) → AllZip R xs ys → AllZip R (take d xs) (take d ys)
  AllZip-take zero xs ys h = tt
  AllZip-take (suc d) [] [] h = tt
  AllZip-take (suc d) (x ∷ xs) (y ∷ ys) h = (h.0, AllZip-take d xs ys h.1)
  AllZip-take _ _ _ h = absurd h

  AllZip-drop : (d : ℕ) (xs : List A) (ys : List B) → AllZip R xs ys → AllZip R (drop d xs) (drop d ys)
  AllZip-drop zero xs ys h = h
  AllZip-drop (suc d) [] [] h = tt
  AllZip-drop (suc d) (x ∷ xs) (y ∷ ys) h = AllZip-drop d xs ys h.1
  AllZip-drop _ _ _ h = absurd h

  pub AllZip-between : (start end : ℕ) (xs : List A) (ys : List B) → AllZip R xs ys → AllZip R (slice_range xs start end) (slice_range ys start end)
  AllZip-between start end xs ys h = AllZip-take (end - start) (drop start xs) (drop start ys) (AllZip-drop start xs ys h)

-- ---- one plain index

pub get_first : {B : Type 0} (ts : List B) (first : B) (others : List B) (k : ℕ) → ts ≡ first ∷ others → k ≡ 0 → slice_get ts k ≡ Some first
get_first ts first others k whole none = rw (whole, none) refl

pub get_further : {B : Type 0} (ts : List B) (first : B) (others : List B) (k : ℕ) → ts ≡ first ∷ others → (k ≡ 0 → ⊥)
    → slice_get others (k - 1) ≡ slice_get ts k
get_further ts first others k whole later = grind arith

pub get_none : {B : Type 0} (ts : List B) (k : ℕ) → ts ≡ [] → slice_get ts k ≡ None
get_none ts k is = rw is refl

-- ---- one subscript alone

pub picked_only : (entries : List Entry) (entry : Entry) (ts : List Tree) (n start end : ℕ) → entries ≡ entry ∷ [] → n ≡ length ts → start ≤ end → end ≤ n →
    ((k : ℕ) → k < n → ((start ≤ k) × (k < end)) ↔ IsPosition entry n k) → picked entries ts ≡ slice_range ts start end
picked_only entries entry ts n start end is len h k meant =
    ap (λ l. picked l ts) is ∙ append-nil (picked_by entry ts) ∙ picked_between entry ts start end h (rw len at k) (rw len at meant)

pub between_none : (ts : List Tree) (start end : ℕ) → start ≡ end → slice_range ts start end ≡ []
between_none ts start end same = let none : end - start ≡ 0 = omega arith in ap (λ n. take n (drop start ts)) none

pub between_one : (ts : List Tree) (n start end : ℕ) → n ≡ length ts → end ≤ n → end - start ≡ 1
    → slice_range ts start end ≡ filter_map (slice_get ts) (start ∷ [])
between_one ts n start end len h one =
    let here = get-drop ts start (omega (arith, len, h, one)) in
    ap (λ m. take m (drop start ts)) one ∙ ap (take 1) here.2 ∙ sym (ap (λ o. cons_option o []) here.1)
