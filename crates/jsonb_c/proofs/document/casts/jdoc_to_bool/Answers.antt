use Rattle.jsonb_c.proofs.document.casts.jdoc_to_bool.Goals as goal

pub returns : goal.returns
returns c = (c.to_bool.result, λ form t d. c.to_bool.ensures.value form t (rw c.new.ensures d), c.to_bool.ensures.errors, c.store_bool.ensures)
