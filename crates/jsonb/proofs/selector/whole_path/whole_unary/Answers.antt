use Rattle.jsonb.proofs.Lemmas.{rules, followed, same_outcome}
use Rattle.jsonb.proofs.selector.whole_path.whole_unary.Goals as goal

pub returns-clause-meant : goal.returns-clause-meant
returns-clause-meant c = search (rules, followed, same_outcome)
