use Rattle.jsonb.proofs.Lemmas.{rules, err_is, none_more, copied_more, refused_at, alone_tested, tested_alone}
use Rattle.jsonb.proofs.path.own.owned_steps.Goals as goal

pub loop-step-preserved : goal.loop-step-preserved
loop-step-preserved c = search (rules, copied_more, none_more, alone_tested)

pub returns-in_err-to_owned-clause-errors : goal.returns-in_err-to_owned-clause-errors
returns-in_err-to_owned-clause-errors c =
    let refused = refused_at c.deref-step-items.result.now c.loop-step.step-index c.step-item.result _
    c.loop-step-test.true c.step-item.is (tested_alone _ _ c.in_err-to_owned.ensures.errors) in
    rw (err_is c.from_residual-in_err-to_owned.ensures.1) (rw c.deref-step-items.ensures.value at refused)
