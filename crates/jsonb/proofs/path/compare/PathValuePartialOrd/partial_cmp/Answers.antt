use Rattle.jsonb.proofs.Lemmas.{◌∙◌, order_is}
use Rattle.jsonb.proofs.path.compare.PathValuePartialOrd.partial_cmp.Goals as goal

pub returns : goal.returns
returns c = c.order.ensures ∙ order_is c.args.self.now c.args.other.now
