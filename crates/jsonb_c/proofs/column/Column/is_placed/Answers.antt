use Rattle.std.proofs.Common.{◌∙◌, sym}
use Rattle.jsonb_c.proofs.MakingLemmas.{placed_on, not_placed_at}
use Rattle.jsonb_c.proofs.column.Column.is_placed.Goals as goal

pub loop-index-preserved : goal.loop-index-preserved
loop-index-preserved c = c.loop-index.invariant ∙ placed_on c.args.self.now c.loop-index.index _ c.in-Some.ensures

pub returns-in-None : goal.returns-in-None
returns-in-None c = sym (c.loop-index.invariant ∙ not_placed_at c.args.self.now c.loop-index.index c.in-None.ensures)
