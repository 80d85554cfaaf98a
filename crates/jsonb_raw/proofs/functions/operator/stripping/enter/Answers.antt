use Rattle.jsonb_raw.proofs.Lemmas.{arith, inl, entries_kept, strip, failed, kept_makes, begun_with}
use Rattle.jsonb_raw.proofs.functions.operator.stripping.enter.Goals as goal

pub returns-in_default-clause-entered : goal.returns-in_default-clause-entered
returns-in_default-clause-entered c = grind arith

pub returns-in_err-outer-clause-entered : goal.returns-in_err-outer-clause-entered
returns-in_err-outer-clause-entered c = λ form t coming around whole is w.
    let h = rw c.in-Some.is at (c.in_ok-entries.ensures.entries form t (record { document = inl is })) in
    let count = c.count_kept-count.ensures form t h in
    failed _ _ _ c.from_residual-in_err-outer.ensures.1 (c.in_err-outer.ensures.entered form (entries_kept t) (strip t) coming around whole (kept_makes form t _ _ h count) w)

pub returns-in_err-put_keys-clause-entered : goal.returns-in_err-put_keys-clause-entered
returns-in_err-put_keys-clause-entered c = λ form t coming around whole is w.
    let h = rw c.in-Some.is at (c.in_ok-entries.ensures.entries form t (record { document = inl is })) in
    let count = c.count_kept-count.ensures form t h in
    let entered = c.in_ok-outer.ensures.entered form (entries_kept t) (strip t) coming around whole (kept_makes form t _ _ h count) w in
    failed _ _ _ c.from_residual-in_err-put_keys.ensures.1 (inl (c.in_err-put_keys.ensures.put form t _ whole h count entered))

pub returns-clause-entered : goal.returns-clause-entered
returns-clause-entered c = λ form t coming around whole is w.
    let h = rw c.in-Some.is at (c.in_ok-entries.ensures.entries form t (record { document = inl is })) in
    let count = c.count_kept-count.ensures form t h in
    let entered = c.in_ok-outer.ensures.entered form (entries_kept t) (strip t) coming around whole (kept_makes form t _ _ h count) w in
    begun_with form _ _ _ t whole (c.all_values.ensures.values form t h) (c.in_ok-put_keys.ensures.put form t _ whole h count entered)
