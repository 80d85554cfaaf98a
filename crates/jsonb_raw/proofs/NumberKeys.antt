-- Byte lists that rank in some way whatever follows them, and the bytes of numbers, which rank as these do.
use Rattle.jsonb_raw.proofs.Common.{◌≡◌, ◌≢◌, ◌⊎◌, ℕ, zero, suc, ◌+◌, ◌-◌, ◌*◌, ◌^◌, ◌%◌, ◌<◌, ◌≤◌, ◌==◌, true, false, List, [], ◌∷◌, ◌++◌, map, length, inl, inr, refl, sym, ap, ap₂, subst, ◌∙◌, arith, nat_cmp, Equal, ⊎_elim, pow-suc, mul_comm, mul-lt-mul_of_pos_right, mul-pos, mul-le-mul_right, zero-add, true≢false, le_trans, le_of_eq, lt_of_lt_of_le, mul_assoc, mul_right_comm, add_comm, lit<, w16, ℤ, pos, negsuc, ◌*ℤ◌, nat_abs, Bool, cond, Ordering, Less, Greater, append-nil, pow-add, one-le-pow, pow-le-pow_right, ordering_then, ordering_reverse, list_all, AllByRecursion, to_be_bytes, digits_of, number_from_digits, number_from_digits_after, AllBelowBase, cases_order, cases_lt, cases_Bool, eqb-true, eqb-false, and_parts, and_cases, nat_tests, number_lt, number_digits_of, all_below_base_digits_of, length-digits_of-le, nat_cmp-lt, nat_cmp-gt, nat_cmp_refl, nat_cmp_places, nat_cmp_scaled, then_Equal, significant, magnitude_bytes, number_bytes, int_cmp-pos, int_cmp-negative, int_cmp-below, int_cmp-above, Number, FitsNumber, bytes_cmp, scaled_pos, append_assoc, bytes_high_first, byte_at, then_assoc, mod_places, mod_below, escaped_byte, text_bytes}
use Rattle.std.proofs.Common.{int_cmp}

-- the two lists rank so, whatever follows each of them
pub record Ranks (xs ys : List ℕ) (o : Ordering) : Type 0 where
  pub ranks : (r s : List ℕ) → bytes_cmp (xs ++ r) (ys ++ s) ≡ ordering_then o (bytes_cmp r s)

pub Ranks-nil : Ranks [] [] Equal
Ranks-nil = record { ranks = λ r s. refl }

pub Ranks-head : (x y : ℕ) (xs ys : List ℕ) (o : Ordering) → Ranks xs ys o → Ranks (x ∷ xs) (y ∷ ys) (ordering_then (nat_cmp x y) o)
Ranks-head x y xs ys o h = record { ranks = λ r s. ap (ordering_then (nat_cmp x y)) (h.ranks r s) ∙ sym (then_assoc (nat_cmp x y) o (bytes_cmp r s)) }

pub Ranks-append : (xs ys zs ws : List ℕ) (o p : Ordering) → Ranks xs ys o → Ranks zs ws p → Ranks (xs ++ zs) (ys ++ ws) (ordering_then o p)
Ranks-append xs ys zs ws o p h k = search (append_assoc, then_assoc, h.ranks, k.ranks)

-- a list that begins lower or higher, whatever follows
pub Ranks-lower : (x y : ℕ) (xs ys : List ℕ) → x < y → Ranks (x ∷ xs) (y ∷ ys) Less
Ranks-lower x y xs ys h = record { ranks = λ r s. rw (nat_cmp-lt x y h) refl }

pub Ranks-higher : (x y : ℕ) (xs ys : List ℕ) → y < x → Ranks (x ∷ xs) (y ∷ ys) Greater
Ranks-higher x y xs ys h = record { ranks = λ r s. rw (nat_cmp-gt x y h) refl }

pub Ranks-same_head : (x : ℕ) (xs ys : List ℕ) (o : Ordering) → Ranks xs ys o → Ranks (x ∷ xs) (x ∷ ys) o
Ranks-same_head x xs ys o h = subst (λ p. Ranks (x ∷ xs) (x ∷ ys) (ordering_then p o)) (nat_cmp_refl x) (Ranks-head x x xs ys o h)

-- ---- numbers in bytes, the highest first

byte_place : (k m : ℕ) → byte_at k m * 256 ^ k + m % 256 ^ k ≡ m % 256 ^ suc k
byte_place k m = grind (arith, pow-suc, mod_places, one-le-pow, mul_comm)

pub Ranks-bytes_high_first : (k m n : ℕ) → Ranks (bytes_high_first k m) (bytes_high_first k n) (nat_cmp (m % 256 ^ k) (n % 256 ^ k))
Ranks-bytes_high_first zero m n = subst (Ranks [] []) (sym (ap₂ nat_cmp (mod-one m) (mod-one n))) Ranks-nil
  where
    mod-one : (m : ℕ) → m % 1 ≡ 0
    mod-one m = omega arith
Ranks-bytes_high_first (suc k) m n =
    subst (Ranks (byte_at k m ∷ bytes_high_first k m) (byte_at k n ∷ bytes_high_first k n))
    (sym (nat_cmp_places (256 ^ k) (byte_at k m) (byte_at k n) (m % 256 ^ k) (n % 256 ^ k) (mod_below m (256 ^ k) (one-le-pow k 256 (omega arith)))
    (mod_below n (256 ^ k) (one-le-pow k 256 (omega arith)))) ∙ ap₂ nat_cmp (byte_place k m) (byte_place k n))
    (Ranks-head (byte_at k m) (byte_at k n) (bytes_high_first k m) (bytes_high_first k n) (nat_cmp (m % 256 ^ k) (n % 256 ^ k)) (Ranks-bytes_high_first k m n))

-- ---- strings

pub Ranks-text_bytes : (xs ys : List ℕ) → Ranks (text_bytes xs) (text_bytes ys) (bytes_cmp xs ys)
Ranks-text_bytes [] [] = Ranks-same_head 0 [] [] Equal Ranks-nil
Ranks-text_bytes [] (y ∷ ys) = first_below y (text_bytes ys)
  where
    first_below : (b : ℕ) (rest : List ℕ) → Ranks (0 ∷ []) (escaped_byte b ++ rest) Less
    first_below b rest = grind (arith, Ranks-lower)
Ranks-text_bytes (x ∷ xs) [] = first_above x (text_bytes xs)
  where
    first_above : (b : ℕ) (rest : List ℕ) → Ranks (escaped_byte b ++ rest) (0 ∷ []) Greater
    first_above b rest = grind (arith, Ranks-higher)
Ranks-text_bytes (x ∷ xs) (y ∷ ys) = Ranks-append (escaped_byte x) (escaped_byte y) (text_bytes xs) (text_bytes ys) (nat_cmp x y) (bytes_cmp xs ys)
    (grind (arith, nat_cmp-lt, Ranks-lower, nat_cmp-gt, Ranks-higher)) (Ranks-text_bytes xs ys)

-- the number that decimal digits write
abbrev pub value : List ℕ → ℕ
value ds = number_from_digits 10 ds

value_after : (n : ℕ) (ds : List ℕ) → number_from_digits_after 10 n ds ≡ n * 10 ^ length ds + value ds
value_after n [] = omega arith
value_after n (d ∷ ds) =
    value_after (n * 10 + d) ds ∙ regroup n d (10 ^ length ds) (10 ^ suc (length ds)) (value ds) (pow-suc 10 (length ds))
    ∙ ap (λ v. n * 10 ^ suc (length ds) + v) (sym (value_after d ds) ∙ ap (λ m. number_from_digits_after 10 m ds) (sym (zero-add d)))
  where
    regroup : (n d p q v : ℕ) → q ≡ p * 10 → (n * 10 + d) * p + v ≡ n * q + (d * p + v)
    regroup n d p q v e = rw e (omega arith)

pub value-cons : (d : ℕ) (ds : List ℕ) → value (d ∷ ds) ≡ d * 10 ^ length ds + value ds
value-cons d ds = ap (λ m. number_from_digits_after 10 m ds) (zero-add d) ∙ value_after d ds

-- the digits as a key holds them
abbrev pub marked : List ℕ → List ℕ
marked ds = map suc (significant ds) ++ 0 ∷ []

-- Holds if a list of digits is 0 and only its end marker is left, or its first digit stays.
abbrev View : ℕ → List ℕ → Type 0
View d ds = ((value (d ∷ ds) ≡ 0) × (marked (d ∷ ds) ≡ 0 ∷ [])) ⊎ ((0 < value (d ∷ ds)) × (marked (d ∷ ds) ≡ suc d ∷ marked ds))

pub all_zero : (ds : List ℕ) → list_all (λ d. d == 0) ds ≡ true → value ds ≡ 0
all_zero [] h = refl
all_zero (d ∷ ds) h = value-cons d ds
    ∙ nothing d (10 ^ length ds) (value ds) (eqb-true d 0 (and_parts (d == 0) (list_all (λ d. d == 0) ds) h).0)
    (all_zero ds (and_parts (d == 0) (list_all (λ d. d == 0) ds) h).1)
  where
    nothing : (d p v : ℕ) → d ≡ 0 → v ≡ 0 → d * p + v ≡ 0
    nothing d p v e f = rw (e, f) (omega arith)

not_all_zero : (ds : List ℕ) → list_all (λ d. d == 0) ds ≡ false → 0 < value ds
not_all_zero [] h = absurd (true≢false h)
not_all_zero (d ∷ ds) h = subst (λ v. 0 < v) (sym (value-cons d ds))
    (⊎_elim (λ (e : (d == 0) ≡ false). by_first e) (λ (e : list_all (λ d. d == 0) ds ≡ false). by_rest (not_all_zero ds e))
    (and_cases (d == 0) (list_all (λ d. d == 0) ds) h))
  where
    by_first : (d == 0) ≡ false → 0 < d * 10 ^ length ds + value ds
    by_first e =
        let ne : d ≢ 0 = eqb-false d 0 e in
        let product : 0 < d * 10 ^ length ds = mul-pos (omega arith) (one-le-pow (length ds) 10 (omega arith)) in
        omega arith

    by_rest : 0 < value ds → 0 < d * 10 ^ length ds + value ds
    by_rest h = omega arith

view : (d : ℕ) (ds : List ℕ) → View d ds
view d ds = ⊎_elim (λ (e : list_all (λ d. d == 0) (d ∷ ds) ≡ true). inl (all_zero (d ∷ ds) e, rw e))
    (λ (e : list_all (λ d. d == 0) (d ∷ ds) ≡ false). inr (not_all_zero (d ∷ ds) e, rw e)) (cases_Bool (list_all (λ d. d == 0) (d ∷ ds)))

no_product : (v p : ℕ) → v ≡ 0 → v * p ≡ 0
no_product v p e = rw e (omega arith)

-- two fractions of which one, or both, are 0
module _ {xs ys : List ℕ} {v w : ℕ} (p q : ℕ) where
  both_end : xs ≡ 0 ∷ [] → v ≡ 0 → ys ≡ 0 ∷ [] → w ≡ 0 → Ranks xs ys (nat_cmp (v * p) (w * q))
  both_end ex ev ey ew = rw (ex, ey, no_product v p ev, no_product w q ew) (Ranks-same_head 0 [] [] Equal Ranks-nil)

  first_ends : {z : ℕ} {zs : List ℕ} → 0 < q → xs ≡ 0 ∷ [] → v ≡ 0 → ys ≡ suc z ∷ zs → 0 < w
      → Ranks xs ys (nat_cmp (v * p) (w * q))
  first_ends {z} {zs} some ex ev ey hw =
      rw (ex, ey, no_product v p ev, nat_cmp-lt 0 (w * q) (mul-pos hw some)) (Ranks-lower 0 (suc z) [] zs (omega arith))

  second_ends : {z : ℕ} {zs : List ℕ} → 0 < p → xs ≡ suc z ∷ zs → 0 < v → ys ≡ 0 ∷ [] → w ≡ 0
      → Ranks xs ys (nat_cmp (v * p) (w * q))
  second_ends {z} {zs} some ex hv ey ew =
      rw (ex, ey, no_product w q ew, nat_cmp-gt (v * p) 0 (mul-pos hv some))
      (Ranks-higher (suc z) 0 zs [] (omega arith))

-- the first digits decide, and otherwise the other digits, here with the fractions' common scale
first_digits : (x y v w p q : ℕ) → v < p → w < q
    → nat_cmp ((x * p + v) * (q * 10)) ((y * q + w) * (p * 10)) ≡ ordering_then (nat_cmp (suc x) (suc y)) (nat_cmp (v * q) (w * p))
first_digits x y v w p q hv hw =
    ap₂ nat_cmp (regroup x v p q) (regroup y w q p ∙ ap (λ z. (y * z + w * p) * 10) (mul_comm q p))
    ∙ nat_cmp_scaled 10 (x * (p * q) + v * q) (y * (p * q) + w * p) (omega arith)
    ∙ nat_cmp_places (p * q) x y (v * q) (w * p) (mul-lt-mul_of_pos_right hv (omega arith)) (rw (mul_comm p q) (mul-lt-mul_of_pos_right hw (omega arith)))
    ∙ ap (λ o. ordering_then o (nat_cmp (v * q) (w * p))) (grind (arith, nat_tests))
  where
    regroup : (x v p q : ℕ) → (x * p + v) * (q * 10) ≡ (x * (p * q) + v * q) * 10
    regroup x v p q = omega arith

-- Two fractions, of the digits after a point, in one scale.
pub Ranks-marked : (xs ys : List ℕ) → AllBelowBase 10 xs → AllBelowBase 10 ys
    → Ranks (marked xs) (marked ys) (nat_cmp (value xs * 10 ^ length ys) (value ys * 10 ^ length xs))
Ranks-marked [] [] hx hy = Ranks-same_head 0 [] [] Equal Ranks-nil
Ranks-marked [] (y ∷ ys) hx hy = elim (view y ys) [
  | inl h ↦ both_end (10 ^ suc (length ys)) 1 refl refl h.1 h.0
  | inr h ↦ first_ends (10 ^ suc (length ys)) 1 (omega arith) refl refl h.1 h.0
]
Ranks-marked (x ∷ xs) [] hx hy = elim (view x xs) [
  | inl h ↦ both_end 1 (10 ^ suc (length xs)) h.1 h.0 refl refl
  | inr h ↦ second_ends 1 (10 ^ suc (length xs)) (omega arith) h.1 h.0 refl refl
]
Ranks-marked (x ∷ xs) (y ∷ ys) hx hy = by_views (view x xs) (view y ys) (Ranks-marked xs ys hx.1 hy.1)
  where
    some : (n : ℕ) → 0 < 10 ^ n
    some n = one-le-pow n 10 (omega arith)

    by_views : View x xs → View y ys → Ranks (marked xs) (marked ys) (nat_cmp (value xs * 10 ^ length ys) (value ys * 10 ^ length xs))
        → Ranks (marked (x ∷ xs)) (marked (y ∷ ys)) (nat_cmp (value (x ∷ xs) * 10 ^ suc (length ys)) (value (y ∷ ys) * 10 ^ suc (length xs)))
    by_views (inl h) (inl k) more = both_end (10 ^ suc (length ys)) (10 ^ suc (length xs)) h.1 h.0 k.1 k.0
    by_views (inl h) (inr k) more =
        first_ends (10 ^ suc (length ys)) (10 ^ suc (length xs)) (some (suc (length xs))) h.1 h.0 k.1 k.0
    by_views (inr h) (inl k) more =
        second_ends (10 ^ suc (length ys)) (10 ^ suc (length xs)) (some (suc (length ys))) h.1 h.0 k.1 k.0
    by_views (inr h) (inr k) more =
        let decided = first_digits x y (value xs) (value ys) (10 ^ length xs) (10 ^ length ys)
        (number_lt 10 xs hx.1) (number_lt 10 ys hy.1) in
        rw (h.1, k.1, value-cons x xs, value-cons y ys, pow-suc 10 (length xs), pow-suc 10 (length ys), decided)
        (Ranks-head (suc x) (suc y) (marked xs) (marked ys) (nat_cmp (value xs * 10 ^ length ys) (value ys * 10 ^ length xs)) more)

-- a number below its decade, times a power of ten, is below one that begins a later decade
decades_apart : (m n s t l k : ℕ) → m < 10 ^ suc l → 10 ^ k ≤ n → suc l + t ≤ k + s → m * 10 ^ t < n * 10 ^ s
decades_apart m n s t l k mu nl h =
    let first : m * 10 ^ t < 10 ^ suc l * 10 ^ t = mul-lt-mul_of_pos_right mu (one-le-pow t 10 (omega arith)) in
    let second : 10 ^ (suc l + t) ≤ 10 ^ (k + s) = pow-le-pow_right (lit< tt) h in
    let third : 10 ^ k * 10 ^ s ≤ n * 10 ^ s = mul-le-mul_right (10 ^ s) nl in
    let e : 10 ^ (suc l + t) ≡ 10 ^ suc l * 10 ^ t = pow-add 10 (suc l) t in
    let f : 10 ^ (k + s) ≡ 10 ^ k * 10 ^ s = pow-add 10 k s in
    lt_of_lt_of_le first (le_trans (le_of_eq (sym e)) (le_trans second (le_trans (le_of_eq f) third)))

-- Exact order by exponents first: each number lies in its decade.
pub number_order : (m n s t l k : ℕ) → 10 ^ l ≤ m → m < 10 ^ suc l → 10 ^ k ≤ n → n < 10 ^ suc k → s ≤ 1000 → t ≤ 1000
    → nat_cmp (m * 10 ^ t) (n * 10 ^ s) ≡ ordering_then (nat_cmp (suc l + 1000 - s) (suc k + 1000 - t)) (nat_cmp (m * 10 ^ suc k) (n * 10 ^ suc l))
number_order m n s t l k ml mu nl nu hs ht =
    by_exponents (cases_order (suc l + t) (suc k + s))
  where
    regroup : suc l + t ≡ suc k + s → m * 10 ^ t * 10 ^ suc l ≡ m * 10 ^ suc k * 10 ^ s
    regroup e = cc (mul_assoc m (10 ^ t) (10 ^ suc l), pow-add 10 t (suc l), add_comm t (suc l), e, pow-add 10 (suc k) s, mul_assoc m (10 ^ suc k) (10 ^ s))

    by_exponents : (suc l + t ≡ suc k + s) ⊎ ((suc l + t < suc k + s) ⊎ (suc k + s < suc l + t))
        → nat_cmp (m * 10 ^ t) (n * 10 ^ s) ≡ ordering_then (nat_cmp (suc l + 1000 - s) (suc k + 1000 - t)) (nat_cmp (m * 10 ^ suc k) (n * 10 ^ suc l))
    by_exponents (inl e) =
        let exponents : suc l + 1000 - s ≡ suc k + 1000 - t = omega arith in
        sym (nat_cmp_scaled (10 ^ suc l) (m * 10 ^ t) (n * 10 ^ s) (one-le-pow (suc l) 10 (omega arith)))
        ∙ ap₂ nat_cmp (regroup e) (mul_right_comm n (10 ^ s) (10 ^ suc l))
        ∙ nat_cmp_scaled (10 ^ s) (m * 10 ^ suc k) (n * 10 ^ suc l) (one-le-pow s 10 (omega arith))
        ∙ sym (ap (λ o. ordering_then o (nat_cmp (m * 10 ^ suc k) (n * 10 ^ suc l)))
        (ap (λ x. nat_cmp x (suc k + 1000 - t)) exponents ∙ nat_cmp_refl (suc k + 1000 - t)))
    by_exponents (inr (inl h)) =
        let first = nat_cmp-lt (m * 10 ^ t) (n * 10 ^ s) (decades_apart m n s t l k mu nl (omega arith)) in
        rw (first, nat_cmp-lt (suc l + 1000 - s) (suc k + 1000 - t) (omega arith)) refl
    by_exponents (inr (inr h)) =
        let first = nat_cmp-gt (m * 10 ^ t) (n * 10 ^ s) (decades_apart n m t s k l nu ml (omega arith)) in
        rw (first, nat_cmp-gt (suc l + 1000 - s) (suc k + 1000 - t) (omega arith)) refl

-- the count of a number's digits says between which powers of ten it lies
decade : (m : ℕ) → 0 < m → (l : ℕ) × (length (digits_of 10 m) ≡ suc l) × (10 ^ l ≤ m) × (m < 10 ^ suc l)
decade m h = of_length (length (digits_of 10 m)) refl
  where
    upper : m < 10 ^ length (digits_of 10 m)
    upper = subst (λ x. x < 10 ^ length (digits_of 10 m)) (number_digits_of 10 m (omega arith))
        (number_lt 10 (digits_of 10 m) (all_below_base_digits_of 10 m (omega arith)))

    of_length : (j : ℕ) → length (digits_of 10 m) ≡ j → (l : ℕ) × (length (digits_of 10 m) ≡ suc l) × (10 ^ l ≤ m) × (m < 10 ^ suc l)
    of_length zero e = absurd (let u : m < 10 ^ zero = subst (λ j. m < 10 ^ j) e upper in omega arith)
    of_length (suc l) e = (
      l,
      e,
      ⊎_elim (λ (b : m < 10 ^ l). absurd (let c : length (digits_of 10 m) ≤ l = length-digits_of-le 10 l m (omega arith) b in omega arith))
          (λ (b : 10 ^ l ≤ m). b) (cases_lt m (10 ^ l)),
      subst (λ j. m < 10 ^ j) e upper,
    )

pub Ranks-magnitude_bytes : (m n s t : ℕ) → 0 < m → 0 < n → m < 2 ^ 128 → n < 2 ^ 128 → s < 2 ^ 8 → t < 2 ^ 8
    → Ranks (magnitude_bytes m s) (magnitude_bytes n t) (nat_cmp (m * 10 ^ t) (n * 10 ^ s))
unfolding magnitude_bytes
Ranks-magnitude_bytes m n s t m0 n0 hm hn hs ht =
    subst (Ranks (magnitude_bytes m s) (magnitude_bytes n t)) exact
    (Ranks-append (to_be_bytes w16 (count m + 1000 - s)) (to_be_bytes w16 (count n + 1000 - t)) (marked (digits_of 10 m)) (marked (digits_of 10 n))
    (nat_cmp ((count m + 1000 - s) % 256 ^ 2) ((count n + 1000 - t) % 256 ^ 2))
    (nat_cmp (value (digits_of 10 m) * 10 ^ count n) (value (digits_of 10 n) * 10 ^ count m))
    (Ranks-bytes_high_first 2 (count m + 1000 - s) (count n + 1000 - t))
    (Ranks-marked (digits_of 10 m) (digits_of 10 n) (all_below_base_digits_of 10 m (omega arith)) (all_below_base_digits_of 10 n (omega arith))))
  where
    count : ℕ → ℕ
    count x = length (digits_of 10 x)

    small : (x : ℕ) → x < 2 ^ 128 → count x ≤ 39
    small x h = length-digits_of-le 10 39 x (omega arith) (omega arith)

    fits : (x r : ℕ) → x < 2 ^ 128 → (count x + 1000 - r) % 256 ^ 2 ≡ count x + 1000 - r
    fits x r h = let b : count x ≤ 39 = small x h in omega arith

    exact : ordering_then (nat_cmp ((count m + 1000 - s) % 256 ^ 2) ((count n + 1000 - t) % 256 ^ 2))
        (nat_cmp (value (digits_of 10 m) * 10 ^ count n) (value (digits_of 10 n) * 10 ^ count m)) ≡ nat_cmp (m * 10 ^ t) (n * 10 ^ s)
    exact =
        let d = decade m m0 in
        let e = decade n n0 in
        ap₂ ordering_then
        (ap₂ nat_cmp (fits m s hm ∙ ap (λ x. x + 1000 - s) d.1) (fits n t hn ∙ ap (λ x. x + 1000 - t) e.1))
        (ap₂ nat_cmp (ap₂ (λ x y. x * 10 ^ y) (number_digits_of 10 m (omega arith)) e.1) (ap₂ (λ x y. x * 10 ^ y) (number_digits_of 10 n (omega arith)) d.1))
        ∙ sym (number_order m n s t d.0 e.0 d.2 d.3 e.2 e.3 (omega arith) (omega arith))

-- ---- bytes and their complements

abbrev AllBytes : List ℕ → Type 0
AllBytes bs = AllByRecursion (λ b. b < 256) bs

abbrev complement : List ℕ → List ℕ
complement bs = map (λ b. 255 - b) bs

-- ---- what lists that rank in some way look like

-- the order of lists that rank so is the order of the lists alone
pub ranks_alone : (xs ys : List ℕ) (o : Ordering) → Ranks xs ys o → bytes_cmp xs ys ≡ o
ranks_alone xs ys o h = ap₂ bytes_cmp (sym (append-nil xs)) (sym (append-nil ys)) ∙ h.ranks [] [] ∙ then_Equal o

-- a list that ends ranks with no longer one
no_front : (y : ℕ) (ys : List ℕ) (o : Ordering) → Ranks [] (y ∷ ys) o → ⊥
no_front y ys o h =
    let less : Less ≡ o = ranks_alone [] (y ∷ ys) o h in
    let above : Greater ≡ ordering_then o Greater = ap (λ p. ordering_then p (bytes_cmp [] (ys ++ []))) (sym (nat_cmp-gt (suc y) y (omega arith)))
    ∙ h.ranks (suc y ∷ []) [] in
    let wrong : Greater ≡ Less = above ∙ ap (λ p. ordering_then p Greater) (sym less) in
    cc

no_end : (x : ℕ) (xs : List ℕ) (o : Ordering) → Ranks (x ∷ xs) [] o → ⊥
no_end x xs o h =
    let greater : Greater ≡ o = ranks_alone (x ∷ xs) [] o h in
    let below : Less ≡ ordering_then o Less = ap (λ p. ordering_then p (bytes_cmp (xs ++ []) [])) (sym (nat_cmp-lt x (suc x) (omega arith)))
    ∙ h.ranks [] (suc x ∷ []) in
    let wrong : Less ≡ Greater = below ∙ ap (λ p. ordering_then p Less) (sym greater) in
    cc

-- The complements rank the other way round.
pub Ranks-complement : (xs ys : List ℕ) (o : Ordering) → AllBytes xs → AllBytes ys → Ranks xs ys o → Ranks (complement xs) (complement ys) (ordering_reverse o)
Ranks-complement [] [] o hx hy h = subst (λ p. Ranks [] [] (ordering_reverse p)) (ranks_alone [] [] o h) Ranks-nil
Ranks-complement [] (y ∷ ys) o hx hy h = absurd (no_front y ys o h)
Ranks-complement (x ∷ xs) [] o hx hy h = absurd (no_end x xs o h)
Ranks-complement (x ∷ xs) (y ∷ ys) o hx hy h = by_order (cases_order x y) (Ranks-complement xs ys o hx.1 hy.1)
  where
    by_order : (x ≡ y) ⊎ ((x < y) ⊎ (y < x)) → (Ranks xs ys o → Ranks (complement xs) (complement ys) (ordering_reverse o))
        → Ranks (complement (x ∷ xs)) (complement (y ∷ ys)) (ordering_reverse o)
    by_order (inl e) more = grind (arith, Ranks-same_head, nat_cmp_refl)
    by_order (inr (inl l)) more = grind (arith, nat_cmp-lt, ranks_alone, Ranks-higher)
    by_order (inr (inr g)) more = grind (arith, nat_cmp-gt, ranks_alone, Ranks-lower)

AllBytes-marked : (ds : List ℕ) → AllBelowBase 10 ds → AllBytes (map suc (significant ds) ++ 0 ∷ [])
AllBytes-marked [] h = (omega arith, tt)
AllBytes-marked (d ∷ ds) h = by_test (list_all (λ d. d == 0) (d ∷ ds)) (AllBytes-marked ds h.1)
  where
    by_test : (b : Bool) → AllBytes (map suc (significant ds) ++ 0 ∷ []) → AllBytes (map suc (cond b [] (d ∷ significant ds)) ++ 0 ∷ [])
    by_test true more = (omega arith, tt)
    by_test false more = (let small : d < 10 = h.0 in omega arith, more)

AllBytes-magnitude_bytes : (n s : ℕ) → AllBytes (magnitude_bytes n s)
unfolding magnitude_bytes
AllBytes-magnitude_bytes n s = (omega arith, (omega arith, AllBytes-marked (digits_of 10 n) (all_below_base_digits_of 10 n (omega arith))))

-- ---- signs

-- a whole value and a scale that a number type holds
pub record IsBounded (z : ℤ) (s : ℕ) : Type 0 where
  pub magnitude : nat_abs z < 2 ^ 128
  pub scale : s < 2 ^ 8

pub Ranks-number_bytes : (y z : ℤ) (s t : ℕ) → IsBounded y s → IsBounded z t
    → Ranks (number_bytes y s) (number_bytes z t) (int_cmp (y *ℤ pos (10 ^ t)) (z *ℤ pos (10 ^ s)))
Ranks-number_bytes (pos zero) (pos zero) s t h k = rw (no_product 0 (10 ^ t) refl, no_product 0 (10 ^ s) refl) (record { ranks = λ r s. refl })
Ranks-number_bytes (pos zero) (pos (suc n)) s t h k = grind (arith, int_cmp-pos, no_product, nat_cmp-lt, scaled_pos, Ranks-lower)
Ranks-number_bytes (pos zero) (negsuc n) s t h k = grind (arith, int_cmp-above, scaled_pos, Ranks-higher)
Ranks-number_bytes (pos (suc m)) (pos zero) s t h k = grind (arith, int_cmp-pos, no_product, nat_cmp-gt, scaled_pos, Ranks-higher)
Ranks-number_bytes (pos (suc m)) (pos (suc n)) s t h k = grind (arith, int_cmp-pos, Ranks-same_head, Ranks-magnitude_bytes)
Ranks-number_bytes (pos (suc m)) (negsuc n) s t h k = grind (arith, int_cmp-above, scaled_pos, Ranks-higher)
Ranks-number_bytes (negsuc m) (pos zero) s t h k = grind (arith, int_cmp-below, scaled_pos, Ranks-lower)
Ranks-number_bytes (negsuc m) (pos (suc n)) s t h k = grind (arith, int_cmp-below, scaled_pos, Ranks-lower)
Ranks-number_bytes (negsuc m) (negsuc n) s t h k = rw (int_cmp-negative (suc m * 10 ^ t) (suc n * 10 ^ s) (scaled_pos m t) (scaled_pos n s))
    (Ranks-same_head 0x7f (complement (magnitude_bytes (suc m) s)) (complement (magnitude_bytes (suc n) t))
    (ordering_reverse (nat_cmp (suc m * 10 ^ t) (suc n * 10 ^ s)))
    (Ranks-complement (magnitude_bytes (suc m) s) (magnitude_bytes (suc n) t) (nat_cmp (suc m * 10 ^ t) (suc n * 10 ^ s)) (AllBytes-magnitude_bytes (suc m) s)
    (AllBytes-magnitude_bytes (suc n) t)
    (Ranks-magnitude_bytes (suc m) (suc n) s t (omega arith) (omega arith) h.magnitude k.magnitude h.scale k.scale)))

-- what the number types hold
pub bounded_from_fits : (n : Number) → FitsNumber n → IsBounded n.whole n.scale
bounded_from_fits n h = grind (arith, pos)
