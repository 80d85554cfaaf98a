use Rattle.jsonb.proofs.Lemmas.{Err, ap, ◌∙◌, err_from_is_err_and, steps_view, same_outcome, first_member, first_refused_too, named_meaning}
use Rattle.jsonb.proofs.selector.whole_path.root_member.Goals as goal

pub returns-in_err-found-clause-meant : goal.returns-in_err-found-clause-meant
returns-in_err-found-clause-meant c = λ form top outcome d h.
    let p = err_from_is_err_and c.from_residual.result c.from_residual.ensures.1 in
    first_refused_too _ _ _ (p.1 ∙ ap Err p.2)
    (same_outcome (named_meaning form c.args.mode (steps_view c.args.steps.now) c.in-Some.name.now top outcome c.in-Some.ensures h)
    (c.in_err-found.ensures.meant form top d))

pub returns-clause-meant : goal.returns-clause-meant
returns-clause-meant c = λ form top outcome d h.
    same_outcome (named_meaning form c.args.mode (steps_view c.args.steps.now) c.in-Some.name.now top outcome c.in-Some.ensures h)
    (first_member c.args.bytes.now c.in_ok-found.found _ (c.in_ok-found.ensures.meant form top d))
