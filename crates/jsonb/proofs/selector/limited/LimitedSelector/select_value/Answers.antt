use Rattle.jsonb.proofs.Lemmas.{lifted_keeps}
use Rattle.jsonb.proofs.selector.limited.LimitedSelector.select_value.Goals as goal

pub returns-clause-value : goal.returns-clause-value
returns-clause-value c = search (lifted_keeps, c.lifted.ensures, c.select_value.ensures.value)
