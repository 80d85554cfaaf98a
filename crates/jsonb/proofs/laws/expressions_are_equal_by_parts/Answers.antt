use Rattle.jsonb.proofs.Lemmas.{expression_view, expression-same}
use Rattle.jsonb.proofs.laws.expressions_are_equal_by_parts.Goals as goal

pub returns : goal.returns
returns c = let d = expression-same (expression_view c.args.left.now) (expression_view c.args.right.now) in (d.0, d.1)
