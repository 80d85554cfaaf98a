use Rattle.jsonb.proofs.Lemmas.{step_view, step-same}
use Rattle.jsonb.proofs.laws.steps_are_equal_by_parts.Goals as goal

pub returns : goal.returns
returns c = let d = step-same (step_view c.args.left.now) (step_view c.args.right.now) in (d.0, d.1)
