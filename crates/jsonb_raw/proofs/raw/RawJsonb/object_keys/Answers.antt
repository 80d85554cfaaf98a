use Rattle.jsonb_raw.proofs.Lemmas.{map, err_from_is_err_and, keys_of, members, text, keys_of-members, one_run, pairs_there}
use Rattle.jsonb_raw.proofs.raw.RawJsonb.object_keys.Goals as goal

pub returns-in_err-array_of-clause-keys : goal.returns-in_err-array_of-clause-keys
returns-in_err-array_of-clause-keys c = λ form t d.
    let o = pairs_there form t _ _ c.in-Some.is (c.in_ok-object.ensures.entries form t (rw c.as_bytes.ensures d)) in
    let p = err_from_is_err_and c.from_residual-in_err-array_of.result c.from_residual-in_err-array_of.ensures.1 in
    rw (p.1, p.2, o.1, ← keys_of-members o.0)
    (c.in_err-array_of.ensures.array form (map text (keys_of (members o.0))) (one_run form _ _ o.2.names))

pub returns-clause-keys : goal.returns-clause-keys
returns-clause-keys c = λ form t d.
    let o = pairs_there form t _ _ c.in-Some.is (c.in_ok-object.ensures.entries form t (rw c.as_bytes.ensures d)) in
    rw (o.1, ← keys_of-members o.0) (c.in_ok-array_of.ensures.array form (map text (keys_of (members o.0))) (one_run form _ _ o.2.names))
