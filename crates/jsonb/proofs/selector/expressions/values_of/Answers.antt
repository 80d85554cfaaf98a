use Rattle.jsonb.proofs.Lemmas.{node_spots, values_then}
use Rattle.jsonb.proofs.selector.expressions.values_of.Goals as goal

pub returns-in-Ok-clause-meant : goal.returns-in-Ok-clause-meant
returns-in-Ok-clause-meant c = λ o h.
    values_then c.args.bytes.now (node_spots c.in-Ok.items) o c.found_values.result (rw c.in-Ok.is at h).ok (λ us zip. c.found_values.ensures.meant us zip)
