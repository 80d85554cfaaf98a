use Rattle.jsonb.proofs.Lemmas.{sym, ◌∙◌, node_spots, answered, failed_as, refused_as, same_outcome, with_repeats}
use Rattle.jsonb.proofs.selector.steps.select_steps.Goals as goal

pub returns-then-not-are_members-clause-meant : goal.returns-then-not-are_members-clause-meant
returns-then-not-are_members-clause-meant c = λ top u r s.
    same_outcome (sym (c.behind_start-behind.ensures c.args.expressions c.args.context.now.mode top u)) (c.listed_steps.ensures.meant top u r s)

pub returns-in_err-found-clause-meant : goal.returns-in_err-found-clause-meant
returns-in_err-found-clause-meant c = λ top u r s.
    failed_as c.from_residual.ensures.1
    (same_outcome (sym (c.behind_start-behind.ensures c.args.expressions c.args.context.now.mode top u))
    (refused_as (c.in_err-found.ensures.meant c.args.expressions top u (sym c.are_members.ensures ∙ c.if-not-are_members.false) s)))

pub returns-clause-meant : goal.returns-clause-meant
returns-clause-meant c = λ top u r s.
    same_outcome (sym (c.behind_start-behind.ensures c.args.expressions c.args.context.now.mode top u))
    (answered (with_repeats c.args.repeats c.args.context.now.document.bytes.now (node_spots c.at_most_one.result) _
    (rw c.at_most_one.ensures (c.in_ok-found.ensures.meant c.args.expressions top u (sym c.are_members.ensures ∙ c.if-not-are_members.false) s).ok)))
