use Rattle.jsonb_raw.proofs.Lemmas.{◌≡◌, sym, ◌∙◌, is_one_of, SomeTexts-first, SomeTexts-none}
use Rattle.jsonb_raw.proofs.functions.path.name_block.entries_have.Goals as goal

pub returns-in_err-text-clause-has : goal.returns-in_err-text-clause-has
returns-in_err-text-clause-has c = λ form ss h.
    let some = c.loop-text.invariant form ss h in absurd (c.in_err-text.ensures.takes form some.strings some.left)

pub returns-then-eq-clause-has : goal.returns-then-eq-clause-has
returns-then-eq-clause-has c = λ form ss h.
    SomeTexts-first form _ _ (λ left. is_one_of left c.args.name.now ≡ is_one_of ss c.args.name.now)
    (c.loop-text.invariant form ss h) _ (c.in_ok-text.ensures.takes form) c.in-Some.text c.in-Some.is
    (λ rest left fact. rw (sym c.eq.ensures ∙ c.if-eq.true) at fact)

pub loop-text-preserved : goal.loop-text-preserved
loop-text-preserved c = λ form ss h.
    SomeTexts-first form _ _ (λ left. is_one_of left c.args.name.now ≡ is_one_of ss c.args.name.now)
    (c.loop-text.invariant form ss h) _ (c.in_ok-text.ensures.takes form) c.in-Some.text c.in-Some.is
    (λ rest left fact. record { strings = rest; left = left; fact = rw (sym c.eq.ensures ∙ c.if-eq.false) at fact })

pub returns-clause-has : goal.returns-clause-has
returns-clause-has c = λ form ss h.
    SomeTexts-none form _ _ (λ left. is_one_of left c.args.name.now ≡ is_one_of ss c.args.name.now)
    (c.loop-text.invariant form ss h) _ (c.in_ok-text.ensures.takes form) c.in_default.is
