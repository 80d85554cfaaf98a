use Rattle.jsonb_doc.proofs.Lemmas.{number_parts, number_view}
use Rattle.jsonb_doc.proofs.value.Value.clone.Goals as goal

pub returns-clause-tree : goal.returns-clause-tree
returns-clause-tree c = c.in_ok-copy.ensures number_view

pub returns-clause-parts : goal.returns-clause-parts
returns-clause-parts c = c.in_ok-copy.ensures number_parts
