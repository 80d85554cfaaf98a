use Rattle.jsonb_raw.proofs.Lemmas.{[], inl, entries_kept, strip, failed, kept_makes}
use Rattle.jsonb_raw.proofs.functions.operator.stripping.begin.Goals as goal

pub returns-in_err-writer-clause-begun : goal.returns-in_err-writer-clause-begun
returns-in_err-writer-clause-begun c = λ form t h.
    failed _ _ _ c.from_residual.ensures.1 (c.in_err-writer.ensures.opened form (entries_kept t) (strip t) (kept_makes form t _ _ h (c.count_kept-count.ensures form t h)))

pub returns-in_err-put_keys-clause-begun : goal.returns-in_err-put_keys-clause-begun
returns-in_err-put_keys-clause-begun c = λ form t h.
    let count = c.count_kept-count.ensures form t h in
    failed _ _ _ c.from_residual-in_err-put_keys.ensures.1 (inl (c.in_err-put_keys.ensures.put form t [] (strip t) h count
    (c.in_ok-writer.ensures.opened form (entries_kept t) (strip t) (kept_makes form t _ _ h count))))
