use Rattle.jsonb.proofs.Lemmas.{rules, sym, ap, ◌∙◌, whole_expression, expression_view, expression_has_document, leaf_view, framed, progress_view, progress_has_document, not_first, not_second, owning_error-framed, alone_without, refused_alone, err_is}
use Rattle.jsonb.proofs.path.Expr.to_owned.Goals as goal

pub returns-in_err-copied-clause-errors : goal.returns-in_err-copied-clause-errors
returns-in_err-copied-clause-errors c =
    let reached = c.loop-copied.reached in
    rw (err_is c.from_residual-in_err-copied.ensures.1) (refused_alone (whole_expression (expression_view c.args.self.now)) _
    (owning_error-framed reached.frames.items (leaf_view reached.leaf) (expression_view c.args.self.now) _ c.loop-copied.invariant.whole
    c.in_err-copied.ensures.errors))

pub loop-copied-preserved : goal.loop-copied-preserved
loop-copied-preserved c = search (rules, not_first, not_second)

pub returns-in-Whole-clause-whole : goal.returns-in-Whole-clause-whole
returns-in-Whole-clause-whole c =
    let so_far = c.loop-copied.invariant in
    let none = sym (ap progress_has_document c.in-Whole.is) ∙ c.in_ok-whole.ensures.documents so_far.documents (c.in_ok-copied.ensures.whole so_far.clean) in
    let same = sym (ap progress_view c.in-Whole.is) ∙ c.in_ok-whole.ensures.whole
    ∙ ap (framed c.loop-copied.reached.frames.items) c.in_ok-copied.ensures.copy ∙ so_far.whole in
    alone_without (whole_expression (expression_view c.args.self.now)) (ap expression_has_document (sym same) ∙ none)
