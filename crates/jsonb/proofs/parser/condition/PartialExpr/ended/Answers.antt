use Rattle.jsonb.proofs.Lemmas.{◌≡◌, ◌∙◌, sym, ap, Some, None, Expression, or_op, expression_view, joined_view, partial_outcome, Or, view-binary, partial-ended-all}
use Rattle.jsonb.proofs.parser.condition.PartialExpr.ended.Goals as goal

pub returns-in-Some-any : goal.returns-in-Some-any
returns-in-Some-any c =
    let last = c.in-Some.last in
    let first = c.in-Some-any.first in
    let there : partial_outcome c.args.self None ≡ Some (joined_view or_op (Some first) (expression_view last.left.value), last.before.now) =
    partial-ended-all c.args.self last c.in-Some.is ((rw c.in-Some.is at c.requires.0).1)
    ∙ ap (λ any. Some (joined_view or_op any (expression_view last.left.value), last.before.now)) c.in-Some-any.is in
    ap (λ (e : Expression). Some (e, last.before.now)) (view-binary Or first.left last.left) ∙ sym there

pub returns-in-None-any : goal.returns-in-None-any
returns-in-None-any c =
    let last = c.in-Some.last in
    let there : partial_outcome c.args.self None ≡ Some (expression_view last.left.value, last.before.now) =
    partial-ended-all c.args.self last c.in-Some.is ((rw c.in-Some.is at c.requires.0).1)
    ∙ ap (λ any. Some (joined_view or_op any (expression_view last.left.value), last.before.now)) c.in-None-any.is in
    rw c.into_inner.ensures (sym there)
