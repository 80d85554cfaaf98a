use Rattle.jsonb.proofs.Lemmas.{Ok, answered}
use Rattle.jsonb.proofs.selector.search.Items.of_step.Goals as goal

pub returns-in-Children-clause-meant : goal.returns-in-Children-clause-meant
returns-in-Children-clause-meant c = λ ts h. answered {o = Ok ts} (rw c.in-Children.is at h)
