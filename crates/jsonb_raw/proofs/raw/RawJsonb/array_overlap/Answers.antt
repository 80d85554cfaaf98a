use Rattle.jsonb_raw.proofs.raw.RawJsonb.array_overlap.Goals as goal

pub returns-clause-overlap : goal.returns-clause-overlap
returns-clause-overlap c = λ form other_form t u d e.
    c.documents_overlap.ensures.overlap form other_form t u (rw c.as_bytes.ensures d) (rw c.as_bytes-2.ensures e)
