use Rattle.jsonb.proofs.Lemmas.{◌∷◌, [], sym, subst, IsOkAnd, AllZip, Locates, steps_view, steps_meaning, path_steps, node_spots, AreRefused, AreDropped, answered, failed_as, refused_as, with_repeats, refused_steps}
use Rattle.jsonb.proofs.selector.expressions.member_list.Goals as goal

pub returns-in_err-found-clause-meant : goal.returns-in_err-found-clause-meant
returns-in_err-found-clause-meant c = λ top t m at.
    failed_as c.from_residual.ensures.1 (refused_as (rw (refused_steps (steps_view c.args.steps.now)) at (c.in_err-found.ensures.meant AreRefused top t m at)))

pub returns-clause-meant : goal.returns-clause-meant
returns-clause-meant c = λ top t m at.
    let bytes = c.args.context.now.document.bytes.now in
    let o = steps_meaning c.args.context.now.mode (path_steps c.args.steps.now) top (t ∷ []) in
    let found = (rw (refused_steps (steps_view c.args.steps.now)) at (c.in_ok-found.ensures.meant AreRefused top t m at)).ok in
    answered (with_repeats AreDropped bytes (node_spots c.at_most_one.result) o
    (subst (λ l. IsOkAnd o (AllZip (Locates bytes) l)) (sym c.at_most_one.ensures) found))
