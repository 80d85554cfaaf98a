use Rattle.jsonb_doc.proofs.Lemmas.{rules, Validates-along, HasDocument-scalar}
use Rattle.jsonb_doc.proofs.checking.check_document.Goals as goal

pub returns-in-Scalar : goal.returns-in-Scalar
returns-in-Scalar c = search (rules, Validates-along, HasDocument-scalar, (rw c.in-Scalar.is at c.in-Ok.ensures.cut))
