use Rattle.jsonb_raw.proofs.Lemmas.{rules, sym, refl, Locates, in_any, keys_view, tree_at_steps, failed, next_child, none_met, some_met}
use Rattle.jsonb_raw.proofs.raw.RawJsonb.spot_by_keypath.Goals as goal

pub returns-in_err-spot-clause-place : goal.returns-in_err-spot-clause-place
returns-in_err-spot-clause-place g c = λ left tells form t d.
    let d' = in_any form t _ (rw c.as_bytes-bytes.ensures d) in absurd (c.in_err-spot.ensures.marks t d')

pub loop-step-init : goal.loop-step-init
loop-step-init g c = record {
  can = search rules;
  finite = search rules;
  left = λ left tells t d. (t, c.in_ok-spot.ensures.marks t d, rw c.into_iter-step-iterator.ensures.into_iter_gives refl);
}

pub returns-in_err-child-clause-place : goal.returns-in_err-child-clause-place
returns-in_err-child-clause-place g c = λ left tells form t d.
    let d' = in_any form t _ (rw c.as_bytes-bytes.ensures d) in
    let i = c.loop-step.invariant.left left tells t d' in
    failed _ _ _ c.from_residual-in_err-child.ensures.1 (c.in_err-child.ensures.child i.0 i.1)

pub returns-in_default-clause-place : goal.returns-in_default-clause-place
returns-in_default-clause-place g c = λ left tells form t d.
    let d' = in_any form t _ (rw c.as_bytes-bytes.ensures d) in
    let i = c.loop-step.invariant.left left tells t d' in
    let n = none_met (Locates c.as_bytes-bytes.result.now) (tree_at_steps (keys_view (left c.next.new.self))) _ _ _ c.in_default.is
    (c.in_ok-child.ensures.child i.0 i.1)
    (next_child c.in-Some.step.now (left c.next.new.self) _ i.0 _ (tells _ _ _ c.in-Some.ensures.steps) i.2) in
    rw n tt

pub loop-step-preserved : goal.loop-step-preserved
loop-step-preserved g c = record {
  can = search rules;
  finite = search rules;
  left = λ left tells t d.
      let i = c.loop-step.invariant.left left tells t d in
      rw c.spot_by_parts-spot.ensures
      (some_met (Locates c.as_bytes-bytes.result.now) (tree_at_steps (keys_view (left c.next.new.self))) c.in-Some-2.child _ _ _ c.in-Some-2.is
      (c.in_ok-child.ensures.child i.0 i.1)
      (next_child c.in-Some.step.now (left c.next.new.self) _ i.0 _ (tells _ _ _ c.in-Some.ensures.steps) i.2));
}

pub returns-clause-place : goal.returns-clause-place
returns-clause-place g c = λ left tells form t d.
    let d' = in_any form t _ (rw c.as_bytes-bytes.ensures d) in
    let i = c.loop-step.invariant.left left tells t d' in
    let is = rw (tells _ _ _ c.in-None.ensures.steps).0 at i.2 in rw (sym is, sym c.as_bytes-bytes.ensures) i.1
