use Rattle.jsonb_raw.proofs.Lemmas.{◌∙◌}
use Rattle.jsonb_raw.proofs.functions.path.exists_blocks.blocks_decide.Goals as goal

pub returns-in-Some-clause-has : goal.returns-in-Some-clause-has
returns-in-Some-clause-has g c = λ left tells form ss h.
    c.set_decides.ensures left tells ss (rw c.in-Some.is at (c.take_set.ensures form ss h)) ∙ c.loop-set.invariant.left left tells form ss h

pub returns-in_err-decided-clause-has : goal.returns-in_err-decided-clause-has
returns-in_err-decided-clause-has g c = λ left tells form ss h. absurd (c.in_err-decided.ensures.has left tells form ss h)

pub returns-in-Some-2-clause-has : goal.returns-in-Some-2-clause-has
returns-in-Some-2-clause-has g c = λ left tells form ss h.
    rw c.in-Some-2.is at (c.in_ok-decided.ensures.has left tells form ss h) ∙ c.loop-set.invariant.left left tells form ss h

pub loop-set-preserved : goal.loop-set-preserved
loop-set-preserved g c =
    let fewer = c.in_ok-decided.ensures.fewer c.in_default-2.is in
    record {
      can = fewer.0;
      finite = fewer.1;
      left = λ left tells form ss h.
          rw c.in_default-2.is at (c.in_ok-decided.ensures.has left tells form ss h) ∙ c.loop-set.invariant.left left tells form ss h;
    }
