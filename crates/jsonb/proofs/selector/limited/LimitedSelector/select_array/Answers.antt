use Rattle.jsonb.proofs.Lemmas.{lifted_keeps}
use Rattle.jsonb.proofs.selector.limited.LimitedSelector.select_array.Goals as goal

pub returns-clause-array : goal.returns-clause-array
returns-clause-array c = search (lifted_keeps, c.lifted.ensures, c.select_array.ensures.array)
