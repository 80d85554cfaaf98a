use Rattle.std.proofs.Common.{sym}
use Rattle.jsonb_c.proofs.span.first.item_span.Goals as goal

pub returns-in_err-span_of-in-At-clause-span : goal.returns-in_err-span_of-in-At-clause-span
returns-in_err-span_of-in-At-clause-span c = λ form top t computed d h.
    let k = rw c.in-At.is at h in absurd (c.in_err-span_of-in-At.ensures.span form top t d k.1)

pub returns-in_ok-span_of-in-At-clause-span : goal.returns-in_ok-span_of-in-At-clause-span
returns-in_ok-span_of-in-At-clause-span c = λ form top t computed d h.
    let k = rw c.in-At.is at h in (k.0, c.in_ok-span_of-in-At.ensures.span form top t d k.1)

pub returns-in-Computed-clause-span : goal.returns-in-Computed-clause-span
returns-in-Computed-clause-span c = λ form top t computed d h. rw c.in-Computed.is at h
