use Rattle.jsonb_raw.proofs.Lemmas.{◌≡◌, true, false, sym, ◌∙◌, elements, is_equal, SomeEntries-first, SomeEntries-error, SomeEntries-none, take_one, take_no, take_zero}
use Rattle.jsonb_raw.proofs.equal_items.find_equal_among.Goals as goal

pub returns-in_default-clause-found : goal.returns-in_default-clause-found
returns-in_default-clause-found c = λ form other_form ts u h k.
    rw take_no at (SomeEntries-none form _ _ _ c.in_default.ensures.steps (c.loop-more.invariant form other_form ts u h k))

pub returns-in_err-entry-clause-found : goal.returns-in_err-entry-clause-found
returns-in_err-entry-clause-found c = λ form other_form ts u h k.
    SomeEntries-error form _ _ _ _ _ c.in_err-entry.was c.in-Some.ensures.steps (c.loop-more.invariant form other_form ts u h k)

pub returns-in_err-stored_equal-clause-found : goal.returns-in_err-stored_equal-clause-found
returns-in_err-stored_equal-clause-found c = λ form other_form ts u h k.
    SomeEntries-first form _ _ _ _ _ c.in_ok-entry.was c.in-Some.ensures.steps (c.loop-more.invariant form other_form ts u h k)
    (λ first rest left stored fact. absurd (c.in_err-stored_equal.ensures.equal form other_form first u stored k))

pub returns-then-branch-clause-found : goal.returns-then-branch-clause-found
returns-then-branch-clause-found c = λ form other_form ts u h k.
    SomeEntries-first form _ _ _ _ _ c.in_ok-entry.was c.in-Some.ensures.steps (c.loop-more.invariant form other_form ts u h k)
    (λ first rest left stored fact.
    let same : is_equal first u ≡ true = sym (c.in_ok-stored_equal.ensures.equal form other_form first u stored k) ∙ c.if-branch.true in
    rw same at (rw (take_one c.loop-more.more first (elements rest) c.loop-more-test.true) at fact))

pub loop-more-preserved : goal.loop-more-preserved
loop-more-preserved c = λ form other_form ts u h k.
    SomeEntries-first form _ _ _ _ _ c.in_ok-entry.was c.in-Some.ensures.steps (c.loop-more.invariant form other_form ts u h k)
    (λ first rest left stored fact.
    let differs : is_equal first u ≡ false = sym (c.in_ok-stored_equal.ensures.equal form other_form first u stored k) ∙ c.if-branch.false in
    record {
      trees = rest;
      left = left;
      fact = rw differs at (rw (take_one c.loop-more.more first (elements rest) c.loop-more-test.true) at fact);
    })

pub returns-clause-found : goal.returns-clause-found
returns-clause-found c = λ form other_form ts u h k.
    let some = c.loop-more.invariant form other_form ts u h k in
    rw (take_zero c.loop-more.more (elements some.trees) c.loop-more-test.false) at some.fact
