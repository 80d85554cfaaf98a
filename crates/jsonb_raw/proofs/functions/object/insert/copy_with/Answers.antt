use Rattle.jsonb_raw.proofs.Lemmas.{◌∷◌, ◌++◌, failed}
use Rattle.jsonb_raw.proofs.functions.object.insert.copy_with.Goals as goal

pub returns-in_err-put-clause-copied : goal.returns-in_err-put-clause-copied
returns-in_err-put-clause-copied c = λ form xs t ys coming around whole front is back w.
    failed _ _ _ c.from_residual-in_err-put.ensures.1 (c.in_err-put.ensures.put form t (ys ++ coming) around whole is
    (c.in_ok-copy.ensures.copied form xs (t ∷ (ys ++ coming)) around whole front w))
