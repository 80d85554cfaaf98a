use Rattle.jsonb_raw.proofs.Lemmas.{◌≡◌, true, false, sym, ◌∙◌, is_equal, SomeElements-first, SomeElements-error, SomeElements-none}
use Rattle.jsonb_raw.proofs.functions.array.sets.has_element.Goals as goal

pub returns-in_err-element-clause-has : goal.returns-in_err-element-clause-has
returns-in_err-element-clause-has c = λ form other_form ts t l s.
    SomeElements-error form _ _ _ _ _ c.in_err-element.was c.in-Some.ensures.steps (c.loop-element.invariant form other_form ts t l s)

pub returns-in_err-items_equal-clause-has : goal.returns-in_err-items_equal-clause-has
returns-in_err-items_equal-clause-has c = λ form other_form ts t l s.
    SomeElements-first form _ _ _ _ _ c.in_ok-element.was c.in-Some.ensures.steps (c.loop-element.invariant form other_form ts t l s)
    (λ first rest left stands fact. absurd (c.in_err-items_equal.ensures.equal other_form form t first s stands))

pub returns-then-branch-clause-has : goal.returns-then-branch-clause-has
returns-then-branch-clause-has c = λ form other_form ts t l s.
    SomeElements-first form _ _ _ _ _ c.in_ok-element.was c.in-Some.ensures.steps (c.loop-element.invariant form other_form ts t l s)
    (λ first rest left stands fact.
    let yes : is_equal t first ≡ true = sym (c.in_ok-items_equal.ensures.equal other_form form t first s stands) ∙ c.if-branch.true in
    rw yes at fact)

pub loop-element-preserved : goal.loop-element-preserved
loop-element-preserved c = λ form other_form ts t l s.
    SomeElements-first form _ _ _ _ _ c.in_ok-element.was c.in-Some.ensures.steps (c.loop-element.invariant form other_form ts t l s)
    (λ first rest left stands fact.
    let no : is_equal t first ≡ false = sym (c.in_ok-items_equal.ensures.equal other_form form t first s stands) ∙ c.if-branch.false in
    record { trees = rest; left = left; fact = rw no at fact })

pub returns-clause-has : goal.returns-clause-has
returns-clause-has c = λ form other_form ts t l s.
    SomeElements-none form _ _ _ c.in-None.ensures.steps (c.loop-element.invariant form other_form ts t l s)
