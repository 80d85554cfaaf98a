use Rattle.jsonb_raw.proofs.raw.RawJsonb.exists_all_keys_in.Goals as goal

pub returns-clause-all : goal.returns-clause-all
returns-clause-all g c = λ left tells form t d. c.short_circuit.ensures.has left tells form t (rw c.as_bytes.ensures d)
