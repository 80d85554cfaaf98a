use Rattle.jsonb_raw.proofs.Lemmas.{shared_counts, difference_counts}
use Rattle.jsonb_raw.proofs.laws.split_lists.Goals as goal

pub returns-clause-shared : goal.returns-clause-shared
returns-clause-shared c = shared_counts

pub returns-clause-others : goal.returns-clause-others
returns-clause-others c = difference_counts
