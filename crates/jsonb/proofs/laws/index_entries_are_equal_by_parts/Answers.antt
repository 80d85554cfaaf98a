use Rattle.jsonb.proofs.Lemmas.{array_index-equal}
use Rattle.jsonb.proofs.laws.index_entries_are_equal_by_parts.Goals as goal

pub returns : goal.returns
returns c = let d = array_index-equal c.args.left.now c.args.right.now in (d.0, d.1)
