use Rattle.jsonb_c.proofs.document.casts.jdoc_as_bool.Goals as goal

pub returns : goal.returns
returns c = (c.as_bool.result, λ form t d. c.as_bool.ensures.value form t (rw c.new.ensures d), c.as_bool.ensures.errors, c.store_found_bool.ensures)
