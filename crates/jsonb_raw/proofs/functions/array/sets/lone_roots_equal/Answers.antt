use Rattle.jsonb_raw.proofs.functions.array.sets.lone_roots_equal.Goals as goal

pub returns-in_err-items_equal-clause-equal : goal.returns-in_err-items_equal-clause-equal
returns-in_err-items_equal-clause-equal c = λ form other_form t u d e.
    let wanted = rw c.in-Some.is at (c.in_ok-wanted.ensures.item other_form u e) in
    let item = rw c.in-Some-2.is at (c.in_ok-item.ensures.item form t d) in
    absurd (c.in_err-items_equal.ensures.equal other_form form u t wanted.0 item.0)

pub returns-clause-equal : goal.returns-clause-equal
returns-clause-equal c = λ form other_form t u d e.
    let wanted = rw c.in-Some.is at (c.in_ok-wanted.ensures.item other_form u e) in
    let item = rw c.in-Some-2.is at (c.in_ok-item.ensures.item form t d) in
    (item.1, wanted.1, c.in_ok-items_equal.ensures.equal other_form form u t wanted.0 item.0)
