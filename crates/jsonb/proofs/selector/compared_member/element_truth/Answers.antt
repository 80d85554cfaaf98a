use Rattle.jsonb.proofs.Lemmas.{rules, answered}
use Rattle.jsonb.proofs.selector.compared_member.element_truth.Goals as goal

pub returns-in_err-stored-clause-meant : goal.returns-in_err-stored-clause-meant
returns-in_err-stored-clause-meant c = λ t m. absurd (c.in_err-stored.ensures.value t m)

pub returns-in-Some-clause-meant : goal.returns-in-Some-clause-meant
returns-in-Some-clause-meant c = search (rules, answered)

pub returns-in-None-clause-meant : goal.returns-in-None-clause-meant
returns-in-None-clause-meant c = search (rules, answered)
