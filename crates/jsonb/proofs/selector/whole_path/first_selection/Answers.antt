use Rattle.jsonb.proofs.Lemmas.{failed_as, refused_as, begins_found}
use Rattle.jsonb.proofs.selector.whole_path.first_selection.Goals as goal

pub returns-in_err-first-clause-meant : goal.returns-in_err-first-clause-meant
returns-in_err-first-clause-meant c = λ form top outcome r h.
    failed_as c.from_residual.ensures.1 (refused_as (c.in_err-first.ensures.meant form top outcome r h))

pub returns-in-Some-clause-meant : goal.returns-in-Some-clause-meant
returns-in-Some-clause-meant c = λ form top outcome r h.
    begins_found form c.args.context.now.document c.at_most_one.result c.in-Some.first _ c.at_most_one.ensures
    (rw c.in-Some.is at (c.in_ok-first.ensures.meant form top outcome r h))
