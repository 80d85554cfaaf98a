use Rattle.jsonb_c.proofs.document.casts.jdoc_as_i64.Goals as goal

pub returns : goal.returns
returns c = (c.as_i64.result, λ form t d. c.as_i64.ensures.value form t (rw c.new.ensures d), c.as_i64.ensures.errors, c.store_found.ensures)
