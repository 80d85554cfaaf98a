use Rattle.jsonb_raw.proofs.Lemmas.{IsTableOf}
use Rattle.jsonb_raw.proofs.functions.path.exists.KeyTable.seek.Goals.{then-self-eq0+else-is_below, else-self-eq0}
use Rattle.jsonb_raw.proofs.functions.path.exists.KeyTable.seek.Goals as goal

pub returns-clause-table : goal.returns-clause-table
returns-clause-table c = λ form ks h.
    let table : IsTableOf form c.if-self-eq0.self ks = elim c.if-self-eq0.branch [
      | then-self-eq0+else-is_below w ↦ rw w.self-is (w.fill.ensures form ks h)
      | else-self-eq0 w ↦ rw w.self-is h
    ] in
    record { all = table.all; near = c.nearest-self.ensures.cursor form ks table; starts = table.starts; size = table.size }
