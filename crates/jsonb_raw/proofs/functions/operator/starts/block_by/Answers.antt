use Rattle.jsonb_raw.proofs.Lemmas.{sym, ◌∙◌, arith, elements, passes_both, SomeEntries-first, SomeEntries-error, SomeEntries-none, scalar_matches, after_found, at_missing}
use Rattle.jsonb_raw.proofs.PartedRuns.{free_hints}
use Rattle.jsonb_raw.proofs.functions.operator.starts.block_by.Goals as goal

pub store_all-requires-clause-hints : goal.store_all-requires-clause-hints
store_all-requires-clause-hints g c = c.put_hashes.ensures.hints c.args.all (free_hints c.args.all g.row.SLOTS)

pub returns-in_default-clause-matched : goal.returns-in_default-clause-matched
returns-in_default-clause-matched g c = λ form other_form xs ys h k g.
    (SomeEntries-none other_form _ _ _ c.in_default.ensures.steps (c.walk.invariant.left form other_form xs ys h k g)).1

pub returns-in_err-entry-clause-matched : goal.returns-in_err-entry-clause-matched
returns-in_err-entry-clause-matched g c = λ form other_form xs ys h k g.
    SomeEntries-error other_form _ _ _ _ _ c.in_err-entry.was c.in-Some.ensures.steps (c.walk.invariant.left form other_form xs ys h k g)

pub returns-in_err-next_equals-clause-matched : goal.returns-in_err-next_equals-clause-matched
returns-in_err-next_equals-clause-matched g c = λ form other_form xs ys h k g.
    SomeEntries-first other_form _ _ _ _ _ c.in_ok-entry.was c.in-Some.ensures.steps (c.walk.invariant.left form other_form xs ys h k g)
    (λ first rest left stored fact.
    let mine = c.walk.invariant.passes.others form xs h in
    absurd (c.in_err-next_equals.ensures.found form other_form mine.0 first mine.1 stored))

pub walk-preserved-then-branch : goal.walk-preserved-then-branch
walk-preserved-then-branch g c = let fewer = c.in-Some.ensures.goes.on tt in record {
  passes = passes_both _ _ _ c.walk.invariant.passes c.in_ok-next_equals.ensures.passed;
  lower = omega (arith, fewer.2, c.walk.invariant.lower);
  fewer = λ more. omega (arith, fewer.2, c.walk.invariant.lower);
  left = λ form other_form xs ys h k g.
      let mine = c.walk.invariant.passes.others form xs h in
      after_found _ _ _ _ c.in_ok-entry.was c.in-Some.ensures.steps _ _ (c.walk.invariant.left form other_form xs ys h k g)
      (λ y fits stored. sym (scalar_matches other_form _ y stored (sym c.is_container.ensures ∙ c.if-is_container.false) (elements xs))
      ∙ mine.2 _ (c.in_ok-next_equals.ensures.found form other_form mine.0 y mine.1 stored c.if-branch.true));
}

pub returns-then-more-eq0-clause-matched : goal.returns-then-more-eq0-clause-matched
returns-then-more-eq0-clause-matched g c = λ form other_form xs ys h k g.
    let s = c.walk.invariant.left form other_form xs ys h k g in (s.trees, s.left, s.fact.0, s.fact.1)

pub returns-in_err-find-clause-matched : goal.returns-in_err-find-clause-matched
returns-in_err-find-clause-matched g c = λ form other_form xs ys h k g.
    SomeEntries-first other_form _ _ _ _ _ c.in_ok-entry.was c.in-Some.ensures.steps (c.walk.invariant.left form other_form xs ys h k g)
    (λ first rest left stored fact. absurd (c.in_err-find.ensures.found form other_form xs first h stored))

pub returns-then-not-branch-clause-matched : goal.returns-then-not-branch-clause-matched
returns-then-not-branch-clause-matched g c = λ form other_form xs ys h k g.
    let scalar = sym c.is_container.ensures ∙ c.if-is_container.false in
    at_missing _ _ _ _ c.in_ok-entry.was c.in-Some.ensures.steps _ _ (c.walk.invariant.left form other_form xs ys h k g) scalar
    (λ y fits stored. sym (scalar_matches other_form _ y stored scalar (elements xs))
    ∙ sym (c.in_ok-find.ensures.found form other_form xs y h stored) ∙ c.if-not-branch.true)

pub walk-preserved : goal.walk-preserved
walk-preserved g c = let fewer = c.in-Some.ensures.goes.on tt in record {
  passes = c.in_ok-find.ensures.passes;
  lower = omega (arith, fewer.2, c.walk.invariant.lower);
  fewer = λ more. omega (arith, fewer.2, c.walk.invariant.lower);
  left = λ form other_form xs ys h k g.
      after_found _ _ _ _ c.in_ok-entry.was c.in-Some.ensures.steps _ _ (c.walk.invariant.left form other_form xs ys h k g)
      (λ y fits stored. sym (scalar_matches other_form _ y stored (sym c.is_container.ensures ∙ c.if-is_container.false) (elements xs))
      ∙ sym (c.in_ok-find.ensures.found form other_form xs y h stored) ∙ c.if-not-branch.false);
}
