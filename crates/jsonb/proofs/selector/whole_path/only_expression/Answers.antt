use Rattle.jsonb.proofs.Lemmas.{arith, not_only}
use Rattle.jsonb.proofs.selector.whole_path.only_expression.Goals as goal

pub returns-in_default-step : goal.returns-in_default-step
returns-in_default-step c =
    not_only c.args.steps.now c.step-item.result (omega (arith, c.in-len1.len_at_least)) (omega (arith, c.in-len1.len_below)) c.step-item.is c.in_default-step.not-Expr
