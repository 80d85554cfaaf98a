use Rattle.jsonb.proofs.Lemmas.{lifted_keeps}
use Rattle.jsonb.proofs.selector.limited.LimitedSelector.select_values.Goals as goal

pub returns-clause-values : goal.returns-clause-values
returns-clause-values c = search (lifted_keeps, c.lifted.ensures, c.select_values.ensures.values)
