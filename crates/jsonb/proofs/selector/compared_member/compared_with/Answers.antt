use Rattle.jsonb.proofs.Lemmas.{arith}
use Rattle.jsonb.proofs.selector.compared_member.compared_with.Goals as goal

pub returns-in_err-left-clause-meant : goal.returns-in_err-left-clause-meant
returns-in_err-left-clause-meant c = λ t m. absurd (c.in_err-left.ensures.number t m)

pub returns-in-Some-clause-meant : goal.returns-in-Some-clause-meant
returns-in-Some-clause-meant c = λ t m. grind (arith, c.in_ok-left.ensures.number t m, c.in-Number.is, c.numbers_truth.ensures)

pub returns-clause-meant : goal.returns-clause-meant
returns-clause-meant c = λ t m. c.other_with.ensures.meant t (rw c.spot_by_parts.ensures m)
