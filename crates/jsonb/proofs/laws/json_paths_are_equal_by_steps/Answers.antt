use Rattle.jsonb.proofs.Lemmas.{path-equal}
use Rattle.jsonb.proofs.laws.json_paths_are_equal_by_steps.Goals as goal

pub returns : goal.returns
returns c = let d = path-equal c.args.left.now c.args.right.now in (d.0, d.1)
