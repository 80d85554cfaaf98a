use Rattle.jsonb_raw.proofs.Lemmas.{◌≡◌, [], true, err_from_is_err_and, refused_between}
use Rattle.jsonb_raw.proofs.functions.array.sets.array_of_root.Goals as goal

pub returns-in_err-root-clause-made : goal.returns-in_err-root-clause-made
returns-in_err-root-clause-made c = λ form t d.
    let p = err_from_is_err_and c.from_residual.result c.from_residual.ensures.1 in
    let kept : c.args.is_kept ≡ true = search in
    rw (p.1, p.2, kept) (refused_between form [] [] t _ (c.in_err-root.ensures.root form t d))
