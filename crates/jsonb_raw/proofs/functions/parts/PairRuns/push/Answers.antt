use Rattle.jsonb_raw.proofs.Lemmas.{zero_of, pairs_none_added}
use Rattle.jsonb_raw.proofs.functions.parts.PairRuns.push.Goals as goal

pub returns-then-is_empty-clause-pushed : goal.returns-then-is_empty-clause-pushed
returns-then-is_empty-clause-pushed c = λ form xs ys h g.
    pairs_none_added form c.args.self.now c.args.pairs xs ys (zero_of _ c.if-is_empty.ensures) h g
