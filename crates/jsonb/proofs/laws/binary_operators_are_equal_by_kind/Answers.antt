use Rattle.jsonb.proofs.Lemmas.{operator-equal}
use Rattle.jsonb.proofs.laws.binary_operators_are_equal_by_kind.Goals as goal

pub returns : goal.returns
returns c = let d = operator-equal c.args.left.now c.args.right.now in (d.0, d.1)
