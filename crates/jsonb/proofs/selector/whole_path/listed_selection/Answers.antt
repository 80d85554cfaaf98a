use Rattle.jsonb.proofs.Lemmas.{steps_view, failed_as, same_outcome, refused_as, begins_same, by_taken}
use Rattle.jsonb.proofs.selector.whole_path.listed_selection.Goals as goal

pub returns-in_err-firsts-clause-meant : goal.returns-in_err-firsts-clause-meant
returns-in_err-firsts-clause-meant c = λ form top outcome r h.
    let walked = c.is_walked.ensures c.if-not-is_walked.false in
    failed_as c.from_residual.ensures.1
    (same_outcome (by_taken form c.args.context.now.mode top outcome (steps_view c.args.steps.now) walked.0 walked.1 h)
    (refused_as (c.in_err-firsts.ensures.meant top top r r)))

pub returns-clause-meant : goal.returns-clause-meant
returns-clause-meant c = λ form top outcome r h.
    let walked = c.is_walked.ensures c.if-not-is_walked.false in
    same_outcome (by_taken form c.args.context.now.mode top outcome (steps_view c.args.steps.now) walked.0 walked.1 h)
    (begins_same form c.args.context.now.document c.in_ok-firsts.firsts _ (c.in_ok-firsts.ensures.meant top top r r).ok)
