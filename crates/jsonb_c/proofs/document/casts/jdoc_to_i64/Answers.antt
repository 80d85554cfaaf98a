use Rattle.jsonb_c.proofs.document.casts.jdoc_to_i64.Goals as goal

pub returns : goal.returns
returns c = (c.to_i64.result, λ form t d. c.to_i64.ensures.value form t (rw c.new.ensures d), c.to_i64.ensures.errors, c.store.ensures)
