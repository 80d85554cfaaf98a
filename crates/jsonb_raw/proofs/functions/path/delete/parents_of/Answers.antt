use Rattle.jsonb_raw.proofs.Lemmas.{arith, rules, ap, err_from_is_err_and, key_view, keys_view, append-nil, root_value, short_more, met_next, met_none, place_is}
use Rattle.jsonb_raw.proofs.CutLemmas.{walk_begun}
use Rattle.jsonb_raw.proofs.functions.path.delete.parents_of.Goals as goal

pub loop-step-init : goal.loop-step-init
loop-step-init g c = record {
  can = search rules;
  finite = search rules;
  short = rw c.new-parents.ensures.items tt;
  left = λ left tells form t d. search (walk_begun, root_value, c.into_iter-step-iterator.ensures.into_iter_gives);
}

pub returns-in_err-parent-clause-place : goal.returns-in_err-parent-clause-place
returns-in_err-parent-clause-place g c = λ left tells form t d.
    let p = err_from_is_err_and c.from_residual.result c.from_residual.ensures.1 in
    let w = c.loop-step.invariant.left left tells form t d in
    rw (p.1, p.2) (c.in_err-parent.ensures.child form w.here w.holds)

pub returns-in_default-clause-place : goal.returns-in_default-clause-place
returns-in_default-clause-place g c = λ left tells form t d.
    let w = c.loop-step.invariant.left left tells form t d in
    let steps = ap keys_view (tells _ _ _ c.in-Some.ensures.steps) in
    let none = rw c.in_default.is at (c.in_ok-parent.ensures.child form w.here w.holds) in
    rw (met_none form t _ _ (key_view c.in-Some.step.now) _ (keys_view (left c.next.new.self)) _ steps w none) tt

pub loop-step-preserved : goal.loop-step-preserved
loop-step-preserved g c = record {
  can = search rules;
  finite = search rules;
  short = grind (arith, short_more);
  left = λ left tells form t d.
      let w = c.loop-step.invariant.left left tells form t d in
      let steps = ap keys_view (tells _ _ _ c.in-Some.ensures.steps) in
      let into = rw c.in-Some-2.is at (c.in_ok-parent.ensures.child form w.here w.holds) in
      met_next form t _ _ (key_view c.in-Some.step.now) _ (keys_view (left c.next.new.self)) _ steps w c.in-Some-2.parent c.in-Some-2.child _
      c.in_ok-push.ensures.items into;
}

pub returns-clause-place : goal.returns-clause-place
returns-clause-place g c = λ left tells form t d.
    let w = c.loop-step.invariant.left left tells form t d in
    let none = ap keys_view (tells _ _ _ c.in-None.ensures.steps).0 in
    place_is form t c.loop-step.parents _ (grind (arith, append-nil, none, w))

pub returns-clause-short : goal.returns-clause-short
returns-clause-short g c = grind arith
