use Rattle.jsonb.proofs.Lemmas.{rules, sym, same_answer, refused_as, given_by, no_tests}
use Rattle.jsonb.proofs.selector.search.tested_item.Goals as goal

pub returns-in_default-clause-meant : goal.returns-in_default-clause-meant
returns-in_default-clause-meant c = λ e top t a m.
    no_tests c.as_slice.result.now e c.in_default.ensures.cases (rw (sym c.as_slice.ensures) at a)

pub returns-in_err-truth-clause-meant : goal.returns-in_err-truth-clause-meant
returns-in_err-truth-clause-meant c = search (rules, same_answer, refused_as)

pub returns-clause-meant : goal.returns-clause-meant
returns-clause-meant c = search (rules, given_by)
