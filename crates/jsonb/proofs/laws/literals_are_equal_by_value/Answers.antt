use Rattle.jsonb.proofs.Lemmas.{literal_view, literal-same}
use Rattle.jsonb.proofs.laws.literals_are_equal_by_value.Goals as goal

pub returns : goal.returns
returns c = let d = literal-same (literal_view c.args.left.now) (literal_view c.args.right.now) in (d.0, d.1)
