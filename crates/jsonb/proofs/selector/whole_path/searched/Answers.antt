use Rattle.jsonb.proofs.Lemmas.{sym, steps_view, by_taken}
use Rattle.jsonb.proofs.selector.whole_path.searched.Goals as goal

pub returns-clause-meant : goal.returns-clause-meant
returns-clause-meant c = λ form top outcome r h.
    let walked = c.is_walked.ensures c.if-not-is_walked.false in
    rw (sym (by_taken form c.args.context.now.mode top outcome (steps_view c.args.steps.now) walked.0 walked.1 h)) at (c.search.ensures.meant top top r)
