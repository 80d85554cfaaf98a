use Rattle.jsonb_raw.proofs.Lemmas.{bytes_eq-Decides, same_from_decides}
use Rattle.jsonb_raw.proofs.equal_items.same_bytes.Goals as goal

pub returns : goal.returns
returns c = same_from_decides _ _ c.bytes_equal.ensures (bytes_eq-Decides c.args.bytes.now c.args.other.now)
