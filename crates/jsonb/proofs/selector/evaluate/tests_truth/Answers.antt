use Rattle.jsonb.proofs.Lemmas.{◌-◌, Ok, ap, ◌∙◌, refl, sym, arith, take-length, and_then, filtered, known, value_is, next_test, test_done, settled}
use Rattle.jsonb.proofs.selector.evaluate.tests_truth.Goals as goal

pub loop-left-init : goal.loop-left-init
loop-left-init c = record {
  within = omega arith;
  meant = λ branches top t a m.
      (branches, rw (sym (take-length c.args.tests.now)) at a, refl);
}

pub returns-then-is_settled-clause-meant : goal.returns-then-is_settled-clause-meant
returns-then-is_settled-clause-meant c = λ branches top t a m.
    let inv = c.loop-left.invariant.meant branches top t a m in
    let i = c.loop-left.left - 1 in
    let next = next_test c.args.tests.now c.loop-left.left i c.index-tests-left.result inv.0 c.loop-left.state c.args.mode top t
    c.loop-left.invariant.within (omega (arith, c.loop-left-test.true)) c.index-tests-left.is inv.1 in
    known (ap (λ o. and_then o (λ b. Ok (filtered t b))) (inv.2
    ∙ test_done next c.in_ok-truth.truth c.next_jump-state.result
    (value_is (c.in_ok-truth.ensures.meant next.condition top t next.question m).ok) c.next_jump-state.ensures)
    ∙ settled _ next.behind c.args.mode c.next_jump-state.result top t (sym c.is_settled.ensures ∙ c.if-is_settled.true) next.left
    ∙ ap (λ b. Ok (filtered t b)) (sym c.jump_truth.ensures)) refl

pub returns-in_err-truth-clause-meant : goal.returns-in_err-truth-clause-meant
returns-in_err-truth-clause-meant c = λ branches top t a m.
    let inv = c.loop-left.invariant.meant branches top t a m in
    let i = c.loop-left.left - 1 in
    let next = next_test c.args.tests.now c.loop-left.left i c.index-tests-left.result inv.0 c.loop-left.state c.args.mode top t
    c.loop-left.invariant.within (omega (arith, c.loop-left-test.true)) c.index-tests-left.is inv.1 in
    grind (arith, c.from_residual.ensures.1, inv.2, next.is, c.in_err-truth.ensures.meant next.condition top t next.question m)

pub loop-left-preserved : goal.loop-left-preserved
loop-left-preserved c = record {
  within = omega (arith, c.loop-left.invariant.within);
  meant = λ branches top t a m.
      let inv = c.loop-left.invariant.meant branches top t a m in
      let i = c.loop-left.left - 1 in
      let next = next_test c.args.tests.now c.loop-left.left i c.index-tests-left.result inv.0 c.loop-left.state c.args.mode top t
      c.loop-left.invariant.within (omega (arith, c.loop-left-test.true)) c.index-tests-left.is inv.1 in (
        next.behind,
        next.left,
        inv.2
            ∙ test_done next c.in_ok-truth.truth c.next_jump-state.result
            (value_is (c.in_ok-truth.ensures.meant next.condition top t next.question m).ok) c.next_jump-state.ensures,
      );
}

pub returns-clause-meant : goal.returns-clause-meant
returns-clause-meant c = λ branches top t a m. grind (arith, c.loop-left.invariant.meant branches top t a m, c.jump_truth-2.ensures)
