use Rattle.jsonb_raw.proofs.Lemmas.{◌∙◌, refl, ap, not}
use Rattle.jsonb_raw.proofs.functions.array.seen.keeps_among.Goals as goal

pub returns-in_ok-count_equal-in-First-clause-kept : goal.returns-in_ok-count_equal-in-First-clause-kept
returns-in_ok-count_equal-in-First-clause-kept c = λ form other_form ts other before t h k s same.
    (rw (c.in-First.is, (c.in_ok-count_equal-in-First.ensures.count form form ts t h s ∙ same)) refl)

pub returns-in-Shared-clause-kept : goal.returns-in-Shared-clause-kept
returns-in-Shared-clause-kept c = λ form other_form ts other before t h k s same.
    (rw c.in-Shared.is (rw same at (c.has_more_left.ensures.more form other_form ts other t h k s)))

pub returns-in_ok-has_more_left-in-Unshared-clause-kept : goal.returns-in_ok-has_more_left-in-Unshared-clause-kept
returns-in_ok-has_more_left-in-Unshared-clause-kept c = λ form other_form ts other before t h k s same.
    (rw c.in-Unshared.is (ap not (rw same at (c.in_ok-has_more_left-in-Unshared.ensures.more form other_form ts other t h k s))))
