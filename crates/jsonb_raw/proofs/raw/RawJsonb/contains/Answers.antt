use Rattle.jsonb_raw.proofs.raw.RawJsonb.contains.Goals as goal

pub returns-clause-answer : goal.returns-clause-answer
returns-clause-answer c = λ form other_form tree wanted d e.
    c.documents_contain.ensures.answer form other_form tree wanted (rw c.as_bytes.ensures d) (rw c.as_bytes-2.ensures e)
