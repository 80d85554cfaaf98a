use Rattle.jsonb_raw.proofs.functions.array.seen.has_more_left.Goals as goal

pub returns-clause-more : goal.returns-clause-more
returns-clause-more c = λ form other_form ts other t h k s.
    (rw (c.in_ok-before.ensures.count form form ts t h s) at (c.has_more_than-2.ensures.more other_form form other t k s))
