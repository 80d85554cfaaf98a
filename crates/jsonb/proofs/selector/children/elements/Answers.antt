use Rattle.jsonb.proofs.Lemmas.{elements_listed}
use Rattle.jsonb.proofs.selector.children.elements.Goals as goal

pub returns-clause-meant : goal.returns-clause-meant
returns-clause-meant c = λ t m. elements_listed c.args.bytes.now t _ (c.element_spots.ensures.spots t m)
