use Rattle.jsonb_keypath.proofs.EqualLemmas.{owned_key-equal}
use Rattle.jsonb_keypath.proofs.laws.owned_steps_are_equal_by_texts.Goals as goal

pub returns : goal.returns
returns c = let d = owned_key-equal c.args.left.now c.args.right.now in (d.0, d.1)
