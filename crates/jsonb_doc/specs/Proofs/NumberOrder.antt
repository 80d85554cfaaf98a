-- The order of numbers is total, and agrees with equality by value.
use Rattle.std.specs.Prelude.{◌≡◌, ◌⊎◌, ℕ, ◌+◌, ◌-◌, ◌*◌, ◌^◌, ◌<◌, ◌≤◌, suc, zero, ℤ, pos, negsuc, ◌*ℤ◌, neg_ℤ}
use Rattle.std.specs.Cmp.{IsTotalOrder}
use Rattle.std.specs.Ordering.{int_cmp, nat_cmp, ordering_reverse}
use Rattle.std.specs.declared.cmp.Ordering.TheVariants.{Less, Equal, Greater}
use Rattle.std.proofs.Common.{refl, sym, ap, ap₂, ◌∙◌, arith, mul_assoc, mul-pos, inl, inr}
use Rattle.std.proofs.lemmas.Nat.{pow-add}
use Rattle.std.proofs.lemmas.Bool.{cases_order}
use Rattle.std.proofs.lemmas.Bool.Decides.{nat_tests}
use Rattle.std.proofs.lemmas.Cmp.{int_cmp_total}
use native.Mathlib.Nat.{one-le-pow}
use Rattle.jsonb_doc.specs.Proofs.Orderings.{nat_cmp_scaled}
use Rattle.jsonb_doc.specs.Number.{Number, number_cmp}

pub int_cmp-pos : (a b : ℕ) → int_cmp (pos a) (pos b) ≡ nat_cmp a b
int_cmp-pos a b = grind (arith, nat_tests)

pub int_cmp-negative : (a b : ℕ) → 0 < a → 0 < b → int_cmp (neg_ℤ (pos a)) (neg_ℤ (pos b)) ≡ ordering_reverse (nat_cmp a b)
int_cmp-negative zero b ha hb = absurd (omega arith)
int_cmp-negative (suc a) zero ha hb = absurd (omega arith)
int_cmp-negative (suc a) (suc b) ha hb = by_order (cases_order a b)
  where
    by_order : (a ≡ b) ⊎ ((a < b) ⊎ (b < a)) → int_cmp (negsuc a) (negsuc b) ≡ ordering_reverse (nat_cmp (suc a) (suc b))
    by_order (inl e) = grind (arith, nat_tests)
    by_order (inr (inl l)) = grind (arith, nat_tests)
    by_order (inr (inr g)) = grind (arith, nat_tests)

pub int_cmp-below : (a b : ℕ) → 0 < a → int_cmp (neg_ℤ (pos a)) (pos b) ≡ Less
int_cmp-below zero b ha = absurd (omega arith)
int_cmp-below (suc a) b ha = refl

pub int_cmp-above : (a b : ℕ) → 0 < b → int_cmp (pos a) (neg_ℤ (pos b)) ≡ Greater
int_cmp-above a zero hb = absurd (omega arith)
int_cmp-above a (suc b) hb = refl

-- a factor above 0 changes nothing
pub int_cmp_scaled : (y z : ℤ) (k : ℕ) → 0 < k → int_cmp (y *ℤ pos k) (z *ℤ pos k) ≡ int_cmp y z
int_cmp_scaled (pos m) (pos n) k h = int_cmp-pos (m * k) (n * k) ∙ nat_cmp_scaled k m n h ∙ sym (int_cmp-pos m n)
int_cmp_scaled (pos m) (negsuc n) k h = int_cmp-above (m * k) (suc n * k) (mul-pos (omega arith) h)
int_cmp_scaled (negsuc m) (pos n) k h = int_cmp-below (suc m * k) (n * k) (mul-pos (omega arith) h)
int_cmp_scaled (negsuc m) (negsuc n) k h =
    int_cmp-negative (suc m * k) (suc n * k) (mul-pos (omega arith) h) (mul-pos (omega arith) h)
    ∙ ap ordering_reverse (nat_cmp_scaled k (suc m) (suc n) h) ∙ sym (int_cmp-negative (suc m) (suc n) (omega arith) (omega arith))

-- an integer times one factor and then another
int_times : (z : ℤ) (a b : ℕ) → z *ℤ pos a *ℤ pos b ≡ z *ℤ pos (a * b)
int_times (pos m) a b = ap pos (mul_assoc m a b)
int_times (negsuc m) a b = negated (suc m * a) ∙ ap (λ x. neg_ℤ (pos x)) (mul_assoc (suc m) a b)
  where
    negated : (x : ℕ) → neg_ℤ (pos x) *ℤ pos b ≡ neg_ℤ (pos (x * b))
    negated zero = rw (let e : 0 * b ≡ 0 = omega arith in e) refl
    negated (suc x) = refl

-- the whole value at a greater scale
unfoldable pub common : Number → ℕ → ℤ
common n scale = n.whole *ℤ pos (10 ^ (scale - n.scale))

-- numbers compare as their whole values at one scale
pub at_common : (m n : Number) (scale : ℕ) → m.scale ≤ scale → n.scale ≤ scale → number_cmp m n ≡ int_cmp (common m scale) (common n scale)
unfolding common
at_common m n scale hm hn =
    sym (int_cmp_scaled (m.whole *ℤ pos (10 ^ n.scale)) (n.whole *ℤ pos (10 ^ m.scale)) (10 ^ scale) (one-le-pow scale 10 (omega arith)))
    ∙ ap₂ int_cmp (moved m.whole n.scale m.scale (m.scale + n.scale) (omega arith)) (moved n.whole m.scale n.scale (m.scale + n.scale) (omega arith))
    ∙ int_cmp_scaled (m.whole *ℤ pos (10 ^ (scale - m.scale))) (n.whole *ℤ pos (10 ^ (scale - n.scale))) (10 ^ (m.scale + n.scale))
    (one-le-pow (m.scale + n.scale) 10 (omega arith))
  where
    moved : (z : ℤ) (s t k : ℕ) → s + scale ≡ scale - t + k → z *ℤ pos (10 ^ s) *ℤ pos (10 ^ scale) ≡ z *ℤ pos (10 ^ (scale - t)) *ℤ pos (10 ^ k)
    moved z s t k e =
        int_times z (10 ^ s) (10 ^ scale) ∙ ap (λ x. z *ℤ pos x) (sym (pow-add 10 s scale) ∙ ap (λ x. 10 ^ x) e ∙ pow-add 10 (scale - t) k)
        ∙ sym (int_times z (10 ^ (scale - t)) (10 ^ k))

pub number_cmp_total : IsTotalOrder number_cmp
number_cmp_total = record {
  antisymm = λ x y. int_cmp_total.antisymm (x.whole *ℤ pos (10 ^ y.scale)) (y.whole *ℤ pos (10 ^ x.scale));
  trans = chain;
  congr = tied;
}
  where
    chain : (x y z : Number) → number_cmp x y ≡ Less → number_cmp y z ≡ Less → number_cmp x z ≡ Less
    chain x y z h k =
        let s : ℕ = x.scale + y.scale + z.scale in
        at_common x z s (omega arith) (omega arith)
        ∙ int_cmp_total.trans (common x s) (common y s) (common z s) (sym (at_common x y s (omega arith) (omega arith)) ∙ h)
        (sym (at_common y z s (omega arith) (omega arith)) ∙ k)

    tied : (x y z : Number) → number_cmp x y ≡ Equal → number_cmp x z ≡ number_cmp y z
    tied x y z h =
        let s : ℕ = x.scale + y.scale + z.scale in
        at_common x z s (omega arith) (omega arith)
        ∙ int_cmp_total.congr (common x s) (common y s) (common z s) (sym (at_common x y s (omega arith) (omega arith)) ∙ h)
        ∙ sym (at_common y z s (omega arith) (omega arith))
