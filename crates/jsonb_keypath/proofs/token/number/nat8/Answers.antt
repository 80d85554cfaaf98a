use Rattle.jsonb_keypath.proofs.Common.{arith, sym, ◌∙◌, nat_tests}
use Rattle.jsonb_keypath.proofs.NumberLemmas.{nat8_read, when_passes, when_not, when_none}
use Rattle.jsonb_keypath.proofs.token.number.nat8.Goals as goal

pub returns-in_err-n-clause-value : goal.returns-in_err-n-clause-value
returns-in_err-n-clause-value c = rw c.from_residual.ensures (sym (nat8_read c.args.input.now ∙ when_none _ _ c.in_err-n.ensures.value))

pub returns-in-Ok-clause-value : goal.returns-in-Ok-clause-value
returns-in-Ok-clause-value c =
    rw c.in-Ok.ensures.1
    (sym (nat8_read c.args.input.now ∙ when_passes _ _ c.in_ok-n.n c.in_ok-n.rest.now c.in_ok-n.ensures.value (grind (arith, nat_tests, c.in-Ok.ensures.0))))

pub returns-in-Err-clause-value : goal.returns-in-Err-clause-value
returns-in-Err-clause-value c =
    sym (nat8_read c.args.input.now ∙ when_not _ _ c.in_ok-n.n c.in_ok-n.rest.now c.in_ok-n.ensures.value (grind (arith, nat_tests, c.in-Err.ensures)))
