use Rattle.jsonb.proofs.Lemmas.{variants_change_no_meaning}
use Rattle.jsonb.proofs.laws.variants_change_no_meaning.Goals as goal

pub returns : goal.returns
returns c = variants_change_no_meaning
