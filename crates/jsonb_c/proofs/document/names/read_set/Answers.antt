use Rattle.std.proofs.Common.{map}
use Rattle.jsonb_c.proofs.NameSets.{read_as_set}
use Rattle.jsonb_c.proofs.document.names.read_set.Goals as goal

pub returns-in-Ok : goal.returns-in-Ok
returns-in-Ok c =
    read_as_set _ (map (λ n. n.now) c.in_ok-names.names.items) _ c.in_ok-names.ensures (rw c.deref.ensures.value at c.in-Ok.ensures)
