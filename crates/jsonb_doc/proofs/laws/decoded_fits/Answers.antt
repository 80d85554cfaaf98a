use Rattle.jsonb_doc.proofs.Lemmas.{decoded_fits}
use Rattle.jsonb_doc.proofs.laws.decoded_fits.Goals as goal

pub returns : goal.returns
returns c = λ form bytes t all h. decoded_fits form bytes t all h
