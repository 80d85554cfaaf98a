use Rattle.jsonb_raw.proofs.raw.RawJsonb.compare.Goals as goal

pub returns-clause-order : goal.returns-clause-order
returns-clause-order c = λ form other_form t u d e.
    c.documents_order.ensures.order form other_form t u (rw c.as_bytes.ensures d) (rw c.as_bytes-2.ensures e)
