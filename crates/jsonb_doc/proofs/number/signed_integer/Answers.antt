use Rattle.jsonb_doc.proofs.Lemmas.{rules}
use Rattle.jsonb_doc.proofs.number.signed_integer.Goals as goal

pub returns-in_default : goal.returns-in_default
returns-in_default c = search rules
