use Rattle.jsonb_c.proofs.document.casts.jdoc_as_u64.Goals as goal

pub returns : goal.returns
returns c = (c.as_u64.result, λ form t d. c.as_u64.ensures.value form t (rw c.new.ensures d), c.as_u64.ensures.errors, c.store_found.ensures)
