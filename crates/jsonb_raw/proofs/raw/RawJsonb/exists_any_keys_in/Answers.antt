use Rattle.jsonb_raw.proofs.raw.RawJsonb.exists_any_keys_in.Goals as goal

pub returns-clause-any : goal.returns-clause-any
returns-clause-any g c = λ left tells form t d. c.short_circuit.ensures.has left tells form t (rw c.as_bytes.ensures d)
