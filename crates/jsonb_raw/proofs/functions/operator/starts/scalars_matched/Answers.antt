use Rattle.jsonb_raw.proofs.Lemmas.{rules, sym, ◌∙◌, elements, passes_both, SomeEntries-first, SomeEntries-error, SomeEntries-none, scalar_matches, after_found, at_missing}
use Rattle.jsonb_raw.proofs.functions.operator.starts.scalars_matched.Goals as goal

pub returns-in_default-clause-matched : goal.returns-in_default-clause-matched
returns-in_default-clause-matched c = λ form other_form xs ys h k f g.
    (SomeEntries-none other_form _ _ _ c.in_default.ensures.steps (c.walk.invariant.left form other_form xs ys h k g)).1

pub returns-in_err-entry-clause-matched : goal.returns-in_err-entry-clause-matched
returns-in_err-entry-clause-matched c = λ form other_form xs ys h k f g.
    SomeEntries-error other_form _ _ _ _ _ c.in_err-entry.was c.in-Some.ensures.steps (c.walk.invariant.left form other_form xs ys h k g)

pub returns-in_err-is_next-clause-matched : goal.returns-in_err-is_next-clause-matched
returns-in_err-is_next-clause-matched c = λ form other_form xs ys h k f g.
    SomeEntries-first other_form _ _ _ _ _ c.in_ok-entry.was c.in-Some.ensures.steps (c.walk.invariant.left form other_form xs ys h k g)
    (λ first rest left stored fact.
    let mine = c.walk.invariant.passes.others form xs h in
    absurd (c.in_err-is_next.ensures.found form other_form mine.0 first mine.1 stored))

pub walk-preserved-then-is_next : goal.walk-preserved-then-is_next
walk-preserved-then-is_next c = record {
  passes = passes_both _ _ _ c.walk.invariant.passes c.in_ok-is_next.ensures.passed;
  left = λ form other_form xs ys h k g.
      let mine = c.walk.invariant.passes.others form xs h in
      after_found _ _ _ _ c.in_ok-entry.was c.in-Some.ensures.steps _ _ (c.walk.invariant.left form other_form xs ys h k g)
      (λ y fits stored. sym (scalar_matches other_form _ y stored (sym c.is_container.ensures ∙ c.if-is_container.false) (elements xs))
      ∙ mine.2 _ (c.in_ok-is_next.ensures.found form other_form mine.0 y mine.1 stored c.if-is_next.true));
}

pub scattered_matched-requires : goal.scattered_matched-requires
scattered_matched-requires c = search (rules, passes_both)

pub returns-then-is_long-clause-matched : goal.returns-then-is_long-clause-matched
returns-then-is_long-clause-matched c = λ form other_form xs ys h k f g.
    let s = c.walk.invariant.left form other_form xs ys h k g in
    rw s.fact.1 at (c.scattered_matched.ensures.matched form other_form xs s.trees h s.left f s.fact.0)

pub returns-in_err-found-clause-matched : goal.returns-in_err-found-clause-matched
returns-in_err-found-clause-matched c = λ form other_form xs ys h k f g.
    SomeEntries-first other_form _ _ _ _ _ c.in_ok-entry.was c.in-Some.ensures.steps (c.walk.invariant.left form other_form xs ys h k g)
    (λ first rest left stored fact. absurd (c.in_err-found.ensures.found form other_form xs first h stored))

pub returns-then-not-found-clause-matched : goal.returns-then-not-found-clause-matched
returns-then-not-found-clause-matched c = λ form other_form xs ys h k f g.
    let scalar = sym c.is_container.ensures ∙ c.if-is_container.false in
    at_missing _ _ _ _ c.in_ok-entry.was c.in-Some.ensures.steps _ _ (c.walk.invariant.left form other_form xs ys h k g) scalar
    (λ y fits stored. sym (scalar_matches other_form _ y stored scalar (elements xs))
    ∙ sym (c.in_ok-found.ensures.found form other_form xs y h stored) ∙ c.if-not-found.true)

pub walk-preserved : goal.walk-preserved
walk-preserved c = record {
  passes = c.in_ok-found.ensures.passed;
  left = λ form other_form xs ys h k g.
      after_found _ _ _ _ c.in_ok-entry.was c.in-Some.ensures.steps _ _ (c.walk.invariant.left form other_form xs ys h k g)
      (λ y fits stored. sym (scalar_matches other_form _ y stored (sym c.is_container.ensures ∙ c.if-is_container.false) (elements xs))
      ∙ sym (c.in_ok-found.ensures.found form other_form xs y h stored) ∙ c.if-not-found.false);
}
