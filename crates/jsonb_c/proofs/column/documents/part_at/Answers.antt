use Rattle.jsonb_raw.proofs.IteratorLemmas.{iter_tells}
use Rattle.jsonb_c.proofs.column.documents.part_at.Goals as goal

pub returns-clause-part : goal.returns-clause-part
returns-clause-part c =
    let said = c.get_by_keypath.ensures.place _ iter_tells in
    λ form t d. rw (c.iter.ensures.rest, c.deref.ensures.value) at (said form t (rw c.new.ensures d))
