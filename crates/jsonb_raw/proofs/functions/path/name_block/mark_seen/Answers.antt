use Rattle.jsonb_raw.proofs.Lemmas.{◌≡◌, ◌∙◌, ℕ, List, true, is_one_of, SomeTexts-first, later_is_one, bytes_eq-same, refl}
use Rattle.jsonb_raw.proofs.functions.path.name_block.mark_seen.Goals as goal

pub loop-text-init : goal.loop-text-init
loop-text-init c = record { length = refl; seen = λ form ss h seen. seen; left = λ form ss h. record { strings = ss; left = h; fact = λ name one. one } }

pub returns-in_err-text-clause-seen : goal.returns-in_err-text-clause-seen
returns-in_err-text-clause-seen c = λ form ss h seen.
    let some = c.loop-text.invariant.left form ss h in absurd (c.in_err-text.ensures.takes form some.strings some.left)

pub returns-then-left-eq0-clause-seen : goal.returns-then-left-eq0-clause-seen
returns-then-left-eq0-clause-seen c = λ form ss h seen.
    SomeTexts-first form _ _ (λ left. (name : List ℕ) → is_one_of left name ≡ true → is_one_of ss name ≡ true)
    (c.loop-text.invariant.left form ss h) _ (c.in_ok-text.ensures.takes form) c.in-Some.text c.in-Some.is
    (λ rest left fact. c.see-left.ensures.seen ss (c.loop-text.invariant.seen form ss h seen) (fact c.in-Some.text.now (rw (bytes_eq-same c.in-Some.text.now) refl)))

pub loop-text-preserved : goal.loop-text-preserved
loop-text-preserved c = record {
  length = c.see-left.ensures.length ∙ c.loop-text.invariant.length;
  seen = λ form ss h seen.
      SomeTexts-first form _ _ (λ left. (name : List ℕ) → is_one_of left name ≡ true → is_one_of ss name ≡ true)
      (c.loop-text.invariant.left form ss h) _ (c.in_ok-text.ensures.takes form) c.in-Some.text c.in-Some.is
      (λ rest left fact. c.see-left.ensures.seen ss (c.loop-text.invariant.seen form ss h seen) (fact c.in-Some.text.now (rw (bytes_eq-same c.in-Some.text.now) refl)));
  left = λ form ss h.
      SomeTexts-first form _ _ (λ left. (name : List ℕ) → is_one_of left name ≡ true → is_one_of ss name ≡ true)
      (c.loop-text.invariant.left form ss h) _ (c.in_ok-text.ensures.takes form) c.in-Some.text c.in-Some.is
      (λ rest left fact. record { strings = rest; left = left; fact = λ name one. fact name (later_is_one c.in-Some.text.now name rest one) });
}
