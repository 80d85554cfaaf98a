use Rattle.jsonb_c.proofs.SpanLemmas.{none_taken, taken}
use Rattle.jsonb_c.proofs.cursor.next_child.Goals as goal

pub returns-in_err-child-clause-child : goal.returns-in_err-child-clause-child
returns-in_err-child-clause-child c = λ form top t d h. absurd (c.in_err-child.ensures.child t h)

pub returns-in_default-clause-child : goal.returns-in_default-clause-child
returns-in_default-clause-child c = λ form top t d h.
    none_taken form c.args.document.now t _ _ (rw c.in_default.is at (c.in_ok-child.ensures.child t h))

pub returns-in_err-spans-clause-child : goal.returns-in_err-spans-clause-child
returns-in_err-spans-clause-child c = λ form top t d h.
    let k = taken form c.args.document.now t c.in-Some.child _ (rw c.in-Some.is at (c.in_ok-child.ensures.child t h)) in
    absurd (c.in_err-spans.ensures.spans form top k.u k.name d k.key k.value)

pub returns-clause-child : goal.returns-clause-child
returns-clause-child c = λ form top t d h.
    let k = taken form c.args.document.now t c.in-Some.child _ (rw c.in-Some.is at (c.in_ok-child.ensures.child t h)) in
    let s = c.in_ok-spans.ensures.spans form top k.u k.name d k.key k.value in
    k.spans c.in_ok-spans.spans s.0 s.1
