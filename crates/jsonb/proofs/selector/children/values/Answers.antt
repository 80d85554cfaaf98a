use Rattle.jsonb.proofs.Lemmas.{values_listed}
use Rattle.jsonb.proofs.selector.children.values.Goals as goal

pub returns-clause-meant : goal.returns-clause-meant
returns-clause-meant c = λ t m. values_listed c.args.bytes.now t _ (c.value_spots.ensures.spots t m)
