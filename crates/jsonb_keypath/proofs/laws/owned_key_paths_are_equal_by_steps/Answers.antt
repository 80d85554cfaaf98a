use Rattle.jsonb_keypath.proofs.EqualLemmas.{owned_key_paths-equal}
use Rattle.jsonb_keypath.proofs.laws.owned_key_paths_are_equal_by_steps.Goals as goal

pub returns : goal.returns
returns c = let d = owned_key_paths-equal c.args.left.now c.args.right.now in (d.0, d.1)
