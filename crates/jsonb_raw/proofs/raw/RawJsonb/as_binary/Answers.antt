use Rattle.jsonb_raw.proofs.Lemmas.{◌≡◌, rules, err_from_is_err_and, binary, extension}
use Rattle.jsonb_raw.proofs.raw.RawJsonb.as_binary.Goals as goal

pub returns-in_err-from_slice-in-Extension-Binary-clause-value : goal.returns-in_err-from_slice-in-Extension-Binary-clause-value
returns-in_err-from_slice-in-Extension-Binary-clause-value c = λ form tree d.
    let failed = c.from_residual-in_err-from_slice-in-Extension-Binary in
    let p = err_from_is_err_and failed.result failed.ensures.1 in
    let is : tree ≡ extension (binary c.in-Extension-Binary.bytes.now) = search rules in
    rw p.1 (p.2, (c.in-Extension-Binary.bytes.now, is))
