use Rattle.jsonb.proofs.Lemmas.{level-equal}
use Rattle.jsonb.proofs.laws.levels_are_equal_by_parts.Goals as goal

pub returns : goal.returns
returns c = let d = level-equal c.args.left.now c.args.right.now in (d.0, d.1)
