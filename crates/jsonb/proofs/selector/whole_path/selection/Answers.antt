use Rattle.jsonb.proofs.Lemmas.{sym, ◌∙◌, steps_view, arith, failed_as, same_outcome, refused_as, all_exactly, kept_found, by_steps, by_taken, root_filtered}
use Rattle.jsonb.proofs.selector.whole_path.selection.Goals as goal

pub returns-in_err-spots-clause-meant : goal.returns-in_err-spots-clause-meant
returns-in_err-spots-clause-meant c = λ form top outcome r h.
    failed_as c.from_residual-in_err-spots.ensures.1
    (same_outcome (by_taken form c.args.context.now.mode top outcome (steps_view c.args.steps.now) c.in_default.ensures
    (sym c.is_relative.ensures ∙ c.if-is_relative.false) h) (refused_as (c.in_err-spots.ensures.meant top top r r)))

pub returns-clause-meant : goal.returns-clause-meant
returns-clause-meant c = λ form top outcome r h.
    same_outcome (by_taken form c.args.context.now.mode top outcome (steps_view c.args.steps.now) c.in_default.ensures
    (sym c.is_relative.ensures ∙ c.if-is_relative.false) h)
    (record { ok = all_exactly _ _ _ (c.in_ok-spots.ensures.meant top top r r).ok; err = tt })

pub returns-in_err-root_truth-clause-meant : goal.returns-in_err-root_truth-clause-meant
returns-in_err-root_truth-clause-meant c = λ form top outcome r h. grind (arith, by_steps, root_filtered)

pub returns-in-Some-root_filter-clause-meant : goal.returns-in-Some-root_filter-clause-meant
returns-in-Some-root_filter-clause-meant c = λ form top outcome r h. grind (arith, by_steps, root_filtered, kept_found)
