use Rattle.jsonb_doc.proofs.CanonicalLemmas.{in_any}
use Rattle.jsonb_c.proofs.cursor.open.Goals as goal

pub returns-clause-children : goal.returns-clause-children
returns-clause-children c = λ form t d. c.open_children.ensures.children t (in_any form t _ d)
