use Rattle.jsonb.proofs.Lemmas.{IsAt, failed_as, refused_as, found_any}
use Rattle.jsonb.proofs.selector.whole_path.selects_any.Goals as goal

pub returns-in_err-first-clause-meant : goal.returns-in_err-first-clause-meant
returns-in_err-first-clause-meant c = λ form top outcome r h.
    failed_as c.from_residual.ensures.1 (refused_as (c.in_err-first.ensures.meant form top outcome r h))

pub returns-in-Some-clause-meant : goal.returns-in-Some-clause-meant
returns-in-Some-clause-meant c = λ form top outcome r h.
    found_any (IsAt c.args.context.now.document) c.in-Some.first c.is_some.result _ c.is_some.ensures
    (rw c.in-Some.is at (c.in_ok-first.ensures.meant form top outcome r h))
