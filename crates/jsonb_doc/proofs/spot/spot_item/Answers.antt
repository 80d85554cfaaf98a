use Rattle.jsonb_doc.proofs.Lemmas.{any}
use Rattle.jsonb_doc.proofs.spot.spot_item.Goals as goal

pub returns-clause-item : goal.returns-clause-item
returns-clause-item c = λ t m. c.from_content.ensures.decodes any t (rw c.in_ok-content.ensures.2 (m.content any m.whole m.decodes))
