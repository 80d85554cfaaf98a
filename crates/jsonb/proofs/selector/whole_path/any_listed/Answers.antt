use Rattle.jsonb.proofs.Lemmas.{arith, failed_as, refused_as}
use Rattle.jsonb.proofs.selector.whole_path.any_listed.Goals as goal

pub returns-in_err-selected-clause-meant : goal.returns-in_err-selected-clause-meant
returns-in_err-selected-clause-meant c = λ form top outcome r h.
    failed_as c.from_residual.ensures.1 (refused_as (c.in_err-selected.ensures.meant form top outcome r h))

pub returns-clause-meant : goal.returns-clause-meant
returns-clause-meant c = λ form top outcome r h. grind arith
