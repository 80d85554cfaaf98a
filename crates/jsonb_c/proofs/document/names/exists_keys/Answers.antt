use Rattle.jsonb_raw.proofs.Copies.{copied_tells}
use Rattle.jsonb_raw.proofs.IteratorLemmas.{iter_tells}
use Rattle.jsonb_c.proofs.document.names.exists_keys.Goals as goal

pub returns-in-All-clause-keys : goal.returns-in-All-clause-keys
returns-in-All-clause-keys c = λ form t d.
    let said = c.exists_all_keys_in.ensures.all _ (copied_tells _ _ iter_tells) form t (rw c.new-document.ensures d) in
    rw c.in-All.is (rw (c.copied.ensures.source, c.iter.ensures.rest) at said)

pub returns-in-Any-clause-keys : goal.returns-in-Any-clause-keys
returns-in-Any-clause-keys c = λ form t d.
    let said = c.exists_any_keys_in.ensures.any _ (copied_tells _ _ iter_tells) form t (rw c.new-document.ensures d) in
    rw c.in-Any.is (rw (c.copied-in-Any.ensures.source, c.iter-in-Any.ensures.rest) at said)
