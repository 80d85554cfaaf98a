use Rattle.jsonb_raw.proofs.Lemmas.{◌≡◌, false, sym, ◌∙◌, is_equal, SomeEntries-first, SomeEntries-none, passes_next}
use Rattle.jsonb_raw.proofs.equal_items.find_equal.Goals as goal

pub loop-entry-preserved : goal.loop-entry-preserved
loop-entry-preserved c = record {
  passed = passes_next _ _ _ _ _ c.in_ok-entry.was c.in-Some.ensures.steps c.loop-entry.invariant.passed;
  left = λ form other_form ts u h k.
      SomeEntries-first form _ _ _ _ _ c.in_ok-entry.was c.in-Some.ensures.steps (c.loop-entry.invariant.left form other_form ts u h k)
      (λ first rest left stored fact.
      let differs : is_equal first u ≡ false = sym (c.in_ok-stored_equal.ensures.equal form other_form first u stored k) ∙ c.if-branch.false in
      record { trees = rest; left = left; fact = rw differs at fact });
}

pub returns-clause-found : goal.returns-clause-found
returns-clause-found c = λ form other_form ts u h k.
    SomeEntries-none form _ _ _ c.in_default.ensures.steps (c.loop-entry.invariant.left form other_form ts u h k)
