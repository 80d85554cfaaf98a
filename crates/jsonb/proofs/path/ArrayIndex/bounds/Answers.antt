use Rattle.jsonb.proofs.Lemmas.{◌≡◌, ℕ, ◌<◌, ◌↔◌, ℤ, pos, ◌≤ℤ◌, arith, rules, sym, ◌∙◌, w128, SFits, ints, to_z-of_z, IsBetween}
use Rattle.jsonb.proofs.path.ArrayIndex.bounds.Goals as goal

between_itself : (at : ℤ) (k : ℕ) → at ≤ℤ pos k → pos k ≤ℤ at → pos k ≡ at
between_itself at k low high = grind (arith, ints)

at_least : (at : ℤ) (k : ℕ) → pos k ≡ at → at ≤ℤ pos k
at_least at k e = grind (arith, ints)

at_most : (at : ℤ) (k : ℕ) → pos k ≡ at → pos k ≤ℤ at
at_most at k e = grind (arith, ints)

-- between a number and itself there is that number
only_one : (at place : ℤ) (n k : ℕ) (P : Type 0) → at ≡ place → P ↔ IsBetween at at n k → P ↔ ((k < n) × (pos k ≡ place))
only_one at place n k P e h =
    (λ p. let b = h.0 p in (b.0, between_itself at k b.1 b.2 ∙ e), λ b. let is : pos k ≡ at = b.1 ∙ sym e in h.1 (b.0, at_least at k is, at_most at k is))

pub returns-in-Index-clause-meant : goal.returns-in-Index-clause-meant
returns-in-Index-clause-meant c = λ k h.
    let fits : SFits w128 c.position-at.result = search rules in
    let read = to_z-of_z w128 c.position-at.result fits in
    rw c.in-Index.is (only_one _ _ c.args.length k _ (read ∙ c.position-at.ensures) (c.bounds_between.ensures.meant k h))
