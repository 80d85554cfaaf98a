use Rattle.jsonb_raw.proofs.Lemmas.{◌∙◌}
use Rattle.jsonb_raw.proofs.functions.operator.starts.scattered_matched.Goals as goal

pub returns-in-Some-scalars_by_keys-clause-matched : goal.returns-in-Some-scalars_by_keys-clause-matched
returns-in-Some-scalars_by_keys-clause-matched c = λ form other_form xs ys h k f g.
    let s = c.loop-alloc.invariant.left form other_form xs ys h k g in
    rw c.in-Some-scalars_by_keys.is at (c.scalars_by_keys.ensures form other_form xs s.trees h s.left f s.fact.0) ∙ s.fact.1

pub returns-in_err-matched-clause-matched : goal.returns-in_err-matched-clause-matched
returns-in_err-matched-clause-matched c = λ form other_form xs ys h k f g.
    let s = c.loop-alloc.invariant.left form other_form xs ys h k g in
    absurd (c.in_err-matched.ensures.matched form other_form xs s.trees h s.left s.fact.0)

pub returns-in-Some-2-clause-matched : goal.returns-in-Some-2-clause-matched
returns-in-Some-2-clause-matched c = λ form other_form xs ys h k f g.
    let s = c.loop-alloc.invariant.left form other_form xs ys h k g in
    rw c.in-Some-2.is at (c.in_ok-matched.ensures.matched form other_form xs s.trees h s.left s.fact.0) ∙ s.fact.1

pub loop-alloc-preserved : goal.loop-alloc-preserved
loop-alloc-preserved c = record {
  passes = c.in_ok-matched.ensures.passes c.in_default-2.is;
  left = λ form other_form xs ys h k g.
      let s = c.loop-alloc.invariant.left form other_form xs ys h k g in
      let left = rw c.in_default-2.is at (c.in_ok-matched.ensures.matched form other_form xs s.trees h s.left s.fact.0) in
      record { trees = left.0; left = left.1; fact = (left.2, left.3 ∙ s.fact.1) };
}
