use Rattle.jsonb_raw.proofs.Lemmas.{refl, ◌∙◌, arith, length-drop, Fits, elements, elements_fit, elements_few, all_dropped}
use Rattle.jsonb_raw.proofs.functions.array.overlap.blocks_overlap.Goals as goal

pub loop-shared-init : goal.loop-shared-init
loop-shared-init c = λ form other_form ts us l d g. record { trees = us; left = d; fact = (refl, elements_fit us g, elements_few us g) }

pub returns-in-Some-clause-overlap : goal.returns-in-Some-clause-overlap
returns-in-Some-clause-overlap c = λ form other_form ts us l d f g.
    let some = c.loop-shared.invariant form other_form ts us l d g in
    rw c.in-Some.is at (c.overlap_by_keys.ensures form other_form ts some.trees l some.left (elements_fit ts f) some.fact.1
    (elements_few ts f) some.fact.2) ∙ some.fact.0

pub returns-in_err-shared-clause-overlap : goal.returns-in_err-shared-clause-overlap
returns-in_err-shared-clause-overlap c = λ form other_form ts us l d f g.
    let some = c.loop-shared.invariant form other_form ts us l d g in
    absurd (c.in_err-shared.ensures.overlap form other_form ts some.trees l some.left)

pub returns-in-Some-2-clause-overlap : goal.returns-in-Some-2-clause-overlap
returns-in-Some-2-clause-overlap c = λ form other_form ts us l d f g.
    let some = c.loop-shared.invariant form other_form ts us l d g in
    rw c.in-Some-2.is at (c.in_ok-shared.ensures.overlap form other_form ts some.trees l some.left) ∙ some.fact.0

pub loop-shared-preserved : goal.loop-shared-preserved
loop-shared-preserved c = λ form other_form ts us l d g.
    let some = c.loop-shared.invariant form other_form ts us l d g in
    let left = rw c.in_default-2.is at (c.in_ok-shared.ensures.overlap form other_form ts some.trees l some.left) in
    record {
      trees = left.1;
      left = left.2;
      fact = (
        left.4 ∙ some.fact.0,
        rw left.3 (all_dropped Fits left.0 (elements some.trees) some.fact.1),
        rw left.3 (omega (arith, length-drop left.0 (elements some.trees), some.fact.2)),
      );
    }
