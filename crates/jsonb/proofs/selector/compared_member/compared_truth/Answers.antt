use Rattle.jsonb.proofs.Lemmas.{arith}
use Rattle.jsonb.proofs.selector.compared_member.compared_truth.Goals as goal

pub returns-in_err-number-clause-meant : goal.returns-in_err-number-clause-meant
returns-in_err-number-clause-meant c = λ t l. absurd (c.in_err-number.ensures.number t l)

pub returns-in-Some-clause-meant : goal.returns-in-Some-clause-meant
returns-in-Some-clause-meant c = λ t l.
    let is = rw c.in-Some.is at (c.in_ok-number.ensures.number t l) in
    grind (arith, c.compare_short.ensures)
