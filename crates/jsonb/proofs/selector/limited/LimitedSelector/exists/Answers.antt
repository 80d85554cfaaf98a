use Rattle.jsonb.proofs.Lemmas.{lifted_keeps}
use Rattle.jsonb.proofs.selector.limited.LimitedSelector.exists.Goals as goal

pub returns-clause-exists : goal.returns-clause-exists
returns-clause-exists c = search (lifted_keeps, c.lifted.ensures, c.exists.ensures.exists)
