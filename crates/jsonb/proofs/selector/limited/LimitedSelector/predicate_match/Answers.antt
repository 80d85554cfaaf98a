use Rattle.jsonb.proofs.Lemmas.{lifted_keeps}
use Rattle.jsonb.proofs.selector.limited.LimitedSelector.predicate_match.Goals as goal

pub returns-clause-truth : goal.returns-clause-truth
returns-clause-truth c = search (lifted_keeps, c.lifted.ensures, c.predicate_match.ensures.truth)
