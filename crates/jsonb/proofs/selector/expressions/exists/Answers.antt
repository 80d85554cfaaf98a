use Rattle.jsonb.proofs.Lemmas.{arith, node_spots, known, list_exists}
use Rattle.jsonb.proofs.selector.expressions.exists.Goals as goal

pub returns-in-Ok-clause-meant : goal.returns-in-Ok-clause-meant
returns-in-Ok-clause-meant c = λ bytes o h.
    let is = list_exists bytes (node_spots c.in-Ok.items) o (rw c.in-Ok.is at h).ok in
    grind (arith, is, known, c.as_slice.ensures, c.is_empty.ensures)
