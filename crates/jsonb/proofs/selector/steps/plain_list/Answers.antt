use Rattle.jsonb.proofs.Lemmas.{rules, failed_as, refused_as, given_by}
use Rattle.jsonb.proofs.selector.steps.plain_list.Goals as goal

pub returns-in_err-found-clause-meant : goal.returns-in_err-found-clause-meant
returns-in_err-found-clause-meant c = search (rules, failed_as, refused_as)

pub returns-clause-meant : goal.returns-clause-meant
returns-clause-meant c = λ top ts plain a.
    given_by (c.in_ok-found.ensures.meant top ts plain a) (λ us zip. c.distinct.ensures.meant c.args.context.now.document.bytes.now us zip)
