use Rattle.jsonb_raw.proofs.Lemmas.{distinct_counts}
use Rattle.jsonb_raw.proofs.laws.distinct_elements.Goals as goal

pub returns : goal.returns
returns c = distinct_counts
