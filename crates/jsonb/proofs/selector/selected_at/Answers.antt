use Rattle.jsonb.proofs.Lemmas.{rules, arith, failed_as, refused_as, given_by}
use Rattle.jsonb.proofs.selector.selected_at.Goals as goal

pub returns-in_err-context-clause-meant : goal.returns-in_err-context-clause-meant
returns-in_err-context-clause-meant c = λ form top outcome d m. grind (arith, c.in_err-context.ensures.meant)

pub returns-in_err-selected-clause-meant : goal.returns-in_err-selected-clause-meant
returns-in_err-selected-clause-meant c = search (rules, failed_as, refused_as)

pub returns-clause-meant : goal.returns-clause-meant
returns-clause-meant c = search (rules, given_by)
