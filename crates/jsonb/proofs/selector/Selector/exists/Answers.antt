use Rattle.jsonb.proofs.Lemmas.{arith}
use Rattle.jsonb.proofs.selector.Selector.exists.Goals as goal

pub returns-clause-exists : goal.returns-clause-exists
returns-clause-exists c = λ form top outcome d m. grind arith
