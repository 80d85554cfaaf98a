use Rattle.std.proofs.Common.{refl}
use Rattle.jsonb_c.proofs.items.span.item_span.Goals as goal

pub returns-in_err-span_of-in-At-clause-span : goal.returns-in_err-span_of-in-At-clause-span
returns-in_err-span_of-in-At-clause-span c = λ form top t d h.
    let k = rw c.in-At.is at h in absurd (c.in_err-span_of-in-At.ensures.span form top t d k)

pub returns-in_ok-span_of-in-At-clause-span : goal.returns-in_ok-span_of-in-At-clause-span
returns-in_ok-span_of-in-At-clause-span c = λ form top t d h.
    let k = rw c.in-At.is at h in rw c.in-At.is (refl, c.in_ok-span_of-in-At.ensures.span form top t d k)
