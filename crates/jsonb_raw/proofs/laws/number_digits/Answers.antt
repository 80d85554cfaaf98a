use Rattle.jsonb_raw.proofs.Lemmas.{◌≡◌, ◌≢◌, ◌⊎◌, ℕ, suc, ◌+◌, ◌*◌, ◌^◌, ◌<◌, ◌==◌, ◌&&◌, Bool, true, false, cond, List, [], ◌∷◌, ◌++◌, length, get_or, inl, inr, refl, sym, ap, ◌∙◌, arith, pow-suc, ⊎_elim, true≢false, list_all, digits_of, cases_Bool, and_cases, eqb-false, number_digits_of, first_digits_of, significant, value, value-cons, all_zero, ne_eqb}
use Rattle.jsonb_raw.proofs.laws.number_digits.Goals as goal

significant_value : (ds : List ℕ) → value ds * 10 ^ length (significant ds) ≡ value (significant ds) * 10 ^ length ds
significant_value [] = refl
significant_value (d ∷ ds) = by_test (list_all (λ d. d == 0) (d ∷ ds)) (all_zero (d ∷ ds)) (significant_value ds)
  where
    nothing : (v p q : ℕ) → v ≡ 0 → v * p ≡ 0 * q
    nothing v p q e = rw e (omega arith)

    step : (d v w p q : ℕ) → v * p ≡ w * q → (d * q + v) * (p * 10) ≡ (d * p + w) * (q * 10)
    step d v w p q e = let f : v * p * 10 ≡ w * q * 10 = ap (λ x. x * 10) e in omega arith

    by_test : (b : Bool) → (b ≡ true → value (d ∷ ds) ≡ 0) → value ds * 10 ^ length (significant ds) ≡ value (significant ds) * 10 ^ length ds
        → value (d ∷ ds) * 10 ^ length (cond b [] (d ∷ significant ds)) ≡ value (cond b [] (d ∷ significant ds)) * 10 ^ suc (length ds)
    by_test b h e = grind (arith, nothing, value-cons, pow-suc, step)

significant_zeros : (ds : List ℕ) → list_all (λ d. d == 0) ds ≡ true → significant ds ≡ []
significant_zeros [] h = refl
significant_zeros (d ∷ ds) h = rw h

-- a first digit that is not 0 is kept
significant_first : (ds : List ℕ) → 0 < get_or ds 0 0 → (c : ℕ) × (es : List ℕ) × (significant ds ≡ c ∷ es) × (c ≢ 0)
significant_first [] h = absurd (omega arith)
significant_first (d ∷ ds) h =
    let ne : d ≢ 0 = omega arith in
    (d, significant ds, ap (λ b. cond (b && list_all (λ d. d == 0) ds) [] (d ∷ significant ds)) (ne_eqb d 0 ne), ne)

-- the digits are all zeros, or the last that is kept is not 0
significant_last : (ds : List ℕ) → (list_all (λ d. d == 0) ds ≡ true) ⊎ ((es : List ℕ) × (c : ℕ) × (significant ds ≡ es ++ c ∷ []) × (c ≢ 0))
significant_last [] = inl refl
significant_last (d ∷ ds) = by_rest (cases_Bool (list_all (λ d. d == 0) (d ∷ ds))) (significant_last ds)
  where
    by_rest : (list_all (λ d. d == 0) (d ∷ ds) ≡ true) ⊎ (list_all (λ d. d == 0) (d ∷ ds) ≡ false)
        → (list_all (λ d. d == 0) ds ≡ true) ⊎ ((es : List ℕ) × (c : ℕ) × (significant ds ≡ es ++ c ∷ []) × (c ≢ 0))
        → (list_all (λ d. d == 0) (d ∷ ds) ≡ true) ⊎ ((es : List ℕ) × (c : ℕ) × (significant (d ∷ ds) ≡ es ++ c ∷ []) × (c ≢ 0))
    by_rest (inl h) k = inl h
    by_rest (inr h) (inl k) = ⊎_elim (λ (e : (d == 0) ≡ false). inr ([], d, rw h (ap (λ x. d ∷ x) (significant_zeros ds k)), eqb-false d 0 e))
        (λ (e : list_all (λ d. d == 0) ds ≡ false). absurd (true≢false (sym k ∙ e))) (and_cases (d == 0) (list_all (λ d. d == 0) ds) h)
    by_rest (inr h) (inr k) = inr (d ∷ k.0, k.1, rw h (ap (λ x. d ∷ x) k.2), k.3)

last_digit : (n : ℕ) → 0 < n → (es : List ℕ) × (c : ℕ) × (significant (digits_of 10 n) ≡ es ++ c ∷ []) × (c ≢ 0)
last_digit n h = ⊎_elim
    (λ (e : list_all (λ d. d == 0) (digits_of 10 n) ≡ true). absurd
    (let z : n ≡ 0 = sym (number_digits_of 10 n (omega arith)) ∙ all_zero (digits_of 10 n) e in omega arith))
    (λ (k : (es : List ℕ) × (c : ℕ) × (significant (digits_of 10 n) ≡ es ++ c ∷ []) × (c ≢ 0)). k)
    (significant_last (digits_of 10 n))

written_value : (n : ℕ) → n * 10 ^ length (significant (digits_of 10 n)) ≡ value (significant (digits_of 10 n)) * 10 ^ length (digits_of 10 n)
written_value n =
    ap (λ v. v * 10 ^ length (significant (digits_of 10 n))) (sym (number_digits_of 10 n (omega arith))) ∙ significant_value (digits_of 10 n)

pub returns : goal.returns
returns c = record {
  first =
      λ n h. significant_first (digits_of 10 n) (first_digits_of 10 n (omega arith) h);
  last = last_digit;
  value = λ n h. written_value n;
}
