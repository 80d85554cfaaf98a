use Rattle.jsonb.proofs.Lemmas.{Err, ap, sym, ◌∙◌, err_from_is_err_and, same_outcome, first_refused_too, first_member}
use Rattle.jsonb.proofs.selector.search.search.Goals as goal

pub returns-in_err-found-clause-meant : goal.returns-in_err-found-clause-meant
returns-in_err-found-clause-meant c = λ top t h.
    let p = err_from_is_err_and c.from_residual.result c.from_residual.ensures.1 in
    first_refused_too _ _ _ (p.1 ∙ ap Err p.2)
    (same_outcome (sym (c.behind_start-behind.ensures c.args.expressions c.args.context.now.mode top t))
    (c.in_err-found.ensures.meant c.args.expressions top t (sym c.are_members.ensures ∙ c.if-are_members.true) h))

pub returns-then-are_members-clause-meant : goal.returns-then-are_members-clause-meant
returns-then-are_members-clause-meant c = λ top t h.
    first_member c.args.context.now.document.bytes.now c.in_ok-found.found _
    (same_outcome (sym (c.behind_start-behind.ensures c.args.expressions c.args.context.now.mode top t))
    (c.in_ok-found.ensures.meant c.args.expressions top t (sym c.are_members.ensures ∙ c.if-are_members.true) h))

pub returns-in-Lax-clause-meant : goal.returns-in-Lax-clause-meant
returns-in-Lax-clause-meant c = λ top t h.
    let behind = c.behind_start-behind.ensures c.args.expressions c.args.context.now.mode top t in
    rw behind at (rw (sym c.in-Lax.is) at (c.lax_search.ensures.meant top t h))
