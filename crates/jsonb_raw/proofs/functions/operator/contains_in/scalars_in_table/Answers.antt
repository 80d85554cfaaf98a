use Rattle.jsonb_raw.proofs.Lemmas.{refl, sym, ◌∙◌, SomeEntries-none, scalar_told, after_found, at_missing}
use Rattle.jsonb_raw.proofs.functions.operator.contains_in.scalars_in_table.Goals as goal

pub loop-entry-init : goal.loop-entry-init
loop-entry-init c = record {
  table = λ xs h. h;
  left = λ form xs ys h k f. record { trees = ys; left = rw c.into_iter-entry-iterator.ensures.into_iter_gives k; fact = (f, refl) };
}

pub returns-then-not-branch-clause-matched : goal.returns-then-not-branch-clause-matched
returns-then-not-branch-clause-matched c = λ form xs ys h k f.
    let scalar = sym c.is_container.ensures ∙ c.if-is_container.false in
    at_missing _ _ _ _ c.in_ok-entry.was c.in-Some.ensures.steps _ _ (c.loop-entry.invariant.left form xs ys h k f) scalar
    (λ y fits stored. sym ((c.in_ok-has.ensures.told form xs y (c.loop-entry.invariant.table xs h) fits stored).1 (scalar_told form _ y stored scalar))
    ∙ c.if-not-branch.true)

pub loop-entry-preserved : goal.loop-entry-preserved
loop-entry-preserved c = record {
  table = λ xs h. c.in_ok-has.ensures.kept xs (c.loop-entry.invariant.table xs h);
  left = λ form xs ys h k f.
      after_found _ _ _ _ c.in_ok-entry.was c.in-Some.ensures.steps _ _ (c.loop-entry.invariant.left form xs ys h k f)
      (λ y fits stored. (c.in_ok-has.ensures.told form xs y (c.loop-entry.invariant.table xs h) fits stored).0 c.if-not-branch.false);
}

pub returns-clause-matched : goal.returns-clause-matched
returns-clause-matched c = λ form xs ys h k f.
    (SomeEntries-none form _ _ _ c.in-None.ensures.steps (c.loop-entry.invariant.left form xs ys h k f)).1
