-- Numbers: exact order by one scaling and by signs, and the integers at and near a number.
use Rattle.jsonb_doc.proofs.Common.{◌≡◌, ℕ, suc, ◌-◌, ◌*◌, ◌^◌, ◌<◌, ◌≤◌, ℤ, pos, ◌*ℤ◌, sym, ap, ◌∙◌, arith, nat_cmp, Less, mul_assoc, int_lt, zero, mul_comm, pow-suc, mul-le-mul_left, one-le-pow, pow-add, nat_cmp_scaled, nat_cmp-lt, ◌≢◌, ◌+◌, ◌/◌, ◌%◌, inl, inr, Option, FitsSigned, MatchOption, div-add-mod', neg_ℤ, unsigned_abs, w64, add-mul-div_right, eq_of_mul-eq-mul_right, pow-le-pow_right, cases_lt, nat_tests, with_sign, nearest}

pub power_step : (b k : ℕ) → 0 < k → b * 10 * 10 ^ (k - 1) ≡ b * 10 ^ k
power_step b zero h = absurd (omega arith)
power_step b (suc k) h = grind (arith, mul_assoc, mul_comm, pow-suc)

-- a number of 128 bits is below one whose tenfold passes them
pub below_scaled : (a b k : ℕ) → 0 < k → a < 2 ^ 128 → 2 ^ 128 ≤ b * 10 → Less ≡ nat_cmp a (b * 10 ^ k)
below_scaled a b k h ha hb =
    sym (nat_cmp-lt a (b * 10 ^ k) (omega (arith, power_step b k h, mul-le-mul_left (b * 10) (one-le-pow (k - 1) 10 (omega arith)))))

pub scaled_once : (a b s t : ℕ) → t ≤ s → nat_cmp a (b * 10 ^ (s - t)) ≡ nat_cmp (a * 10 ^ t) (b * 10 ^ s)
scaled_once a b s t h =
    sym (nat_cmp_scaled (10 ^ t) a (b * 10 ^ (s - t)) (one-le-pow t 10 (omega arith)))
    ∙ ap (nat_cmp (a * 10 ^ t)) (mul_assoc b (10 ^ (s - t)) (10 ^ t) ∙ ap (λ x. b * x) (sym (pow-add 10 (s - t) t) ∙ ap (λ x. 10 ^ x) (omega arith)))

pub quotient_small : (n p q : ℕ) → n ≢ 0 → n < p → n ≡ q * p → ⊥
quotient_small n p zero some small e = some (let z : 0 * p ≡ 0 = omega arith in e ∙ z)
quotient_small n p (suc q) some small e = omega arith

-- ---- rounding

pub by_rest : (n p : ℕ) → 0 < p → nearest n p ≡ (2 * (n % p) + p) / (2 * p) + n / p
by_rest n p some =
    ap (λ x. x / (2 * p)) (omega (arith, div-add-mod' n p)) ∙ add-mul-div_right (2 * (n % p) + p) (n / p) (omega arith)

-- no power of ten is just past 128 bits
pub past_128_bits : (s : ℕ) → 2 ^ 128 ≤ 10 ^ s → 2 ^ 128 < 10 ^ s
past_128_bits s h = elim (cases_lt s 39) [
  | inl low ↦ grind (arith, pow-le-pow_right)
  | inr high ↦ let power : 10 ^ 39 ≤ 10 ^ s = pow-le-pow_right (omega arith) high in omega arith
]

-- ---- signs

pub size_of : (z y : ℤ) (p : ℕ) → z ≡ y *ℤ pos p → unsigned_abs z ≡ unsigned_abs y * p
size_of z y p e = ap unsigned_abs e ∙ (grind arith)

-- the integer of the sign and the quotient
whole_is : (z : ℤ) (p q : ℕ) → unsigned_abs z ≡ q * p → z ≡ with_sign (int_lt z (pos 0)) q *ℤ pos p
whole_is z p q h = grind (arith, nat_tests, neg_ℤ)

-- the result of a conversion of the sign and the quotient
pub as_signed : (z : ℤ) (p q : ℕ) (r : Option ℤ) → 0 < p → unsigned_abs z ≡ q * p
    → MatchOption r (FitsSigned w64 (with_sign (int_lt z (pos 0)) q) → ⊥) (λ y. with_sign (int_lt z (pos 0)) q ≡ y)
    → MatchOption r ((y : ℤ) → z ≡ y *ℤ pos p → FitsSigned w64 y → ⊥) (λ y. z ≡ y *ℤ pos p)
as_signed z p q r h e k = grind (arith, eq_of_mul-eq-mul_right, size_of, nat_tests, neg_ℤ, whole_is)

pub as_unsigned : (z : ℤ) (p q : ℕ) (r : Option ℕ) → 0 < p → unsigned_abs z ≡ q * p
    → MatchOption r ((m : ℕ) → with_sign (int_lt z (pos 0)) q ≡ pos m → m < 2 ^ 64 → ⊥) (λ m. with_sign (int_lt z (pos 0)) q ≡ pos m)
    → MatchOption r ((m : ℕ) → z ≡ pos m *ℤ pos p → m < 2 ^ 64 → ⊥) (λ m. z ≡ pos m *ℤ pos p)
as_unsigned z p q r h e k = grind (arith, eq_of_mul-eq-mul_right, size_of, nat_tests, neg_ℤ, whole_is)
