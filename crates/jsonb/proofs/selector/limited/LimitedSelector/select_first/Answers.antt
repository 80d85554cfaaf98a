use Rattle.jsonb.proofs.Lemmas.{lifted_keeps}
use Rattle.jsonb.proofs.selector.limited.LimitedSelector.select_first.Goals as goal

pub returns-clause-first : goal.returns-clause-first
returns-clause-first c = search (lifted_keeps, c.lifted.ensures, c.select_first.ensures.first)
