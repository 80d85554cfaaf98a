use Rattle.std.proofs.Common.{◌∙◌, ap, inl, Err}
use Rattle.std.proofs.lemmas.Result.{err_from_is_err_and}
use Rattle.jsonb_c.proofs.Paths.{copy_refused}
use Rattle.jsonb_c.proofs.prepared.parsing.boxed_json.Goals as goal

pub returns-in_err-copy-clause-path : goal.returns-in_err-copy-clause-path
returns-in_err-copy-clause-path c =
    let refused = err_from_is_err_and c.from_residual-in_err-copy.result c.from_residual-in_err-copy.ensures.1 in
    rw (refused.1 ∙ ap Err refused.2) (inl (copy_refused _ _ _ c.in_ok-path.ensures c.in_err-copy.ensures.errors))
