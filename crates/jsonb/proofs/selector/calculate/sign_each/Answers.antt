use Rattle.jsonb.proofs.Lemmas.{arith, answered, failed_as, none_signed, one_signed, one_refused, all_signed}
use Rattle.jsonb.proofs.selector.calculate.sign_each.Goals as goal

pub loop-number-init : goal.loop-number-init
loop-number-init c = none_signed c.args.op c.args.numbers.now

pub returns-in_err-number-clause-meant : goal.returns-in_err-number-clause-meant
returns-in_err-number-clause-meant c =
    failed_as c.from_residual.ensures.1
    (one_refused c.args.op c.loop-number.numbers c.loop-number.number-index _ _ c.loop-number.invariant (omega arith) c.in_err-number.ensures.meant)

pub loop-number-preserved : goal.loop-number-preserved
loop-number-preserved c = grind (arith, one_signed, c.loop-number.invariant, c.in_ok-number.ensures.meant.ok)

pub returns-clause-meant : goal.returns-clause-meant
returns-clause-meant c = answered (all_signed c.args.op c.loop-number.numbers c.loop-number.number-index _ c.loop-number.invariant (omega arith))
