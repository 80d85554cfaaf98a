use Rattle.jsonb_raw.proofs.Lemmas.{copied_tells, iter_tells}
use Rattle.jsonb_raw.proofs.tests.calls.has_each.Goals as goal

pub returns : goal.returns
returns c = λ form t d. let h = c.exists_all_keys.ensures.all _ (copied_tells _ _ iter_tells) form t d in rw (c.copied.ensures.source, c.iter.ensures.rest) at h
