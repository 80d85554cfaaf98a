use Rattle.jsonb_raw.proofs.Lemmas.{iter_tells}
use Rattle.jsonb_raw.proofs.tests.part_at.Goals as goal

pub returns : goal.returns
returns c = λ form t d. let h = c.get_by_keypath.ensures.place _ iter_tells form t d in rw (c.iter.ensures.rest, c.deref.ensures.value) at h
