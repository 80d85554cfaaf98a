use Rattle.jsonb.proofs.Lemmas.{Ok, ap, sym, ◌∙◌, refl, and_then, filtered, arith, same_outcome, known, value_is, first_test, test_done, settled}
use Rattle.jsonb.proofs.selector.evaluate.filter_truth.Goals as goal

pub returns-in_err-truth-clause-meant : goal.returns-in_err-truth-clause-meant
returns-in_err-truth-clause-meant c = λ e top t a m q.
    let k = first_test c.args.others.now c.args.first.now e c.args.mode top t a in
    grind (arith, c.from_residual.ensures.1, k.1, k.0.is, c.in_err-truth.was, q k.0.condition k.0.question)

pub returns-then-is_settled-clause-meant : goal.returns-then-is_settled-clause-meant
returns-then-is_settled-clause-meant c = λ e top t a m q.
    let k = first_test c.args.others.now c.args.first.now e c.args.mode top t a in
    known (ap (λ o. and_then o (λ v. Ok (filtered t v)))
    (k.1 ∙ test_done k.0 c.in_ok-truth.truth c.next_jump-state.result
    (value_is (rw c.in_ok-truth.was at (q k.0.condition k.0.question)).ok) c.next_jump-state.ensures)
    ∙ settled _ k.0.behind c.args.mode c.next_jump-state.result top t (sym c.is_settled.ensures ∙ c.if-is_settled.true) k.0.left
    ∙ ap (λ v. Ok (filtered t v)) (sym c.jump_truth.ensures)) refl

pub returns-clause-meant : goal.returns-clause-meant
returns-clause-meant c = λ e top t a m q.
    let k = first_test c.args.others.now c.args.first.now e c.args.mode top t a in
    same_outcome (ap (λ o. and_then o (λ v. Ok (filtered t v)))
    (k.1 ∙ test_done k.0 c.in_ok-truth.truth c.next_jump-state.result
    (value_is (rw c.in_ok-truth.was at (q k.0.condition k.0.question)).ok) c.next_jump-state.ensures))
    (c.tests_truth.ensures.meant k.0.behind top t k.0.left m)
