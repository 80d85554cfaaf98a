use Rattle.jsonb.proofs.Lemmas.{sign-equal}
use Rattle.jsonb.proofs.laws.unary_operators_are_equal_by_kind.Goals as goal

pub returns : goal.returns
returns c = let d = sign-equal c.args.left.now c.args.right.now in (d.0, d.1)
