use Rattle.jsonb.proofs.Lemmas.{◌+◌, ◌∷◌, [], IsOkAnd, map, drop, ap, sym, ◌∙◌, subst, drop_of_length-le, Locates, steps_of, step_view, steps_view, AllZip, step_meaning, steps_meaning, option_spots, taken_step, arith, same_outcome, one_ok, continued, none_left, no_member, one_member, member_first, member_next}
use Rattle.jsonb.proofs.selector.members.member.Goals as goal

pub returns-in_err-next-clause-meant : goal.returns-in_err-next-clause-meant
returns-in_err-next-clause-meant c = λ expressions top t all m.
    let inv = c.loop-step.invariant expressions top t all m in
    let first = member_first c.args.steps.now c.loop-step.step-index c.step-item.result c.loop-step-test.true c.step-item.is inv.2 in
    grind (
      arith,
      c.from_residual.ensures.1,
      inv.3,
      member_next c.args.steps.now c.loop-step.step-index c.step-item.result c.loop-step-test.true c.step-item.is c.args.mode expressions top inv.0 first.0,
      steps_meaning c.args.mode (steps_of (map (taken_step expressions) (steps_view (drop (c.loop-step.step-index + 1) c.args.steps.now)))) top,
      c.in_err-next.ensures.meant top inv.0 first.0 inv.1,
    )

pub returns-in-None-clause-meant : goal.returns-in-None-clause-meant
returns-in-None-clause-meant c = λ expressions top t all m.
    let inv = c.loop-step.invariant expressions top t all m in
    let first = member_first c.args.steps.now c.loop-step.step-index c.step-item.result c.loop-step-test.true c.step-item.is inv.2 in
    let left = steps_of (map (taken_step expressions) (steps_view (drop (c.loop-step.step-index + 1) c.args.steps.now))) in
    same_outcome
    (inv.3 ∙ member_next c.args.steps.now c.loop-step.step-index c.step-item.result c.loop-step-test.true
    c.step-item.is c.args.mode expressions top inv.0 first.0)
    (one_ok (steps_meaning c.args.mode left top) (c.in_ok-next.ensures.meant top inv.0 first.0 inv.1) (λ us related.
    subst (λ o. IsOkAnd o (AllZip (Locates c.args.bytes.now) []))
    (sym (ap (steps_meaning c.args.mode left top) (no_member (Locates c.args.bytes.now) _ us c.in-None.is related) ∙ none_left c.args.mode left top)) tt))

pub loop-step-preserved : goal.loop-step-preserved
loop-step-preserved c = λ expressions top t all m.
    let inv = c.loop-step.invariant expressions top t all m in
    let first = member_first c.args.steps.now c.loop-step.step-index c.step-item.result c.loop-step-test.true c.step-item.is inv.2 in
    let left = steps_of (map (taken_step expressions) (steps_view (drop (c.loop-step.step-index + 1) c.args.steps.now))) in
    let next = continued (λ us. AllZip (Locates c.args.bytes.now) (option_spots c.in_ok-next.field-0) us)
    (step_meaning c.args.mode (step_view c.step-item.result) top inv.0) (steps_meaning c.args.mode left top)
    ((c.in_ok-next.ensures.meant top inv.0 first.0 inv.1).ok) in
    let one = one_member (Locates c.args.bytes.now) _ c.in-Some.next next.0 c.in-Some.is next.1 in (
      one.0,
      rw c.spot_by_parts-item.ensures one.2,
      first.1,
      inv.3
          ∙ member_next c.args.steps.now c.loop-step.step-index c.step-item.result c.loop-step-test.true
          c.step-item.is c.args.mode expressions top inv.0 first.0
          ∙ next.2 ∙ ap (steps_meaning c.args.mode left top) one.1,
    )

pub returns-clause-meant : goal.returns-clause-meant
returns-clause-meant c = λ expressions top t all m.
    let inv = c.loop-step.invariant expressions top t all m in
    let none = inv.3 ∙ ap (λ l. steps_meaning c.args.mode (steps_of (map (taken_step expressions) (steps_view l))) top (inv.0 ∷ []))
    (drop_of_length-le c.args.steps.now c.loop-step-test.false) in
    record { ok = subst (λ o. IsOkAnd o (AllZip (Locates c.args.bytes.now) (c.spot_by_parts.result ∷ []))) (sym none) (rw c.spot_by_parts.ensures inv.1, tt); err = tt }
