use Rattle.jsonb.proofs.Lemmas.{index-equal}
use Rattle.jsonb.proofs.laws.indices_are_equal_by_parts.Goals as goal

pub returns : goal.returns
returns c = let d = index-equal c.args.left.now c.args.right.now in (d.0, d.1)
