use Rattle.jsonb.proofs.Lemmas.{◌≡◌, [], Ok, ap, ◌∙◌, refl, arith, length, picked, picked_only, between_none, between_one, failed_as, only_memory, same_outcome, answered}
use Rattle.jsonb.proofs.selector.children.picked_elements.Goals as goal

pub returns-in_default-clause-meant : goal.returns-in_default-clause-meant
returns-in_default-clause-meant c = λ bytes ts h. answered {o = Ok (picked c.args.entries.now ts)} (ts, h, refl)

pub returns-then-start-end-clause-meant : goal.returns-then-start-end-clause-meant
returns-then-start-end-clause-meant c = λ bytes ts h.
    let start = c.bounds-start.result.0 in
    let end = c.bounds-start.result.1 in
    let len : c.len.result ≡ length ts = c.len.ensures bytes ts h in
    same_outcome (ap Ok (picked_only c.args.entries.now c.in-Some.entry.now ts c.len.result start end c.in-Some.ensures len c.bounds-start.ensures.within.0
    c.bounds-start.ensures.within.1 c.bounds-start.ensures.meant
    ∙ between_none ts start end c.if-start-end.true)) (answered {o = Ok []} tt)

pub returns-then-end-start-gt1-clause-meant : goal.returns-then-end-start-gt1-clause-meant
returns-then-end-start-gt1-clause-meant c = λ bytes ts h. answered {o = Ok (picked c.args.entries.now ts)} (ts, h, refl)

pub returns-in_err-found-clause-meant : goal.returns-in_err-found-clause-meant
returns-in_err-found-clause-meant c = λ bytes ts h. failed_as c.from_residual.ensures.1 (only_memory (c.in_err-found.ensures.meant bytes ts h))

pub returns-clause-meant : goal.returns-clause-meant
returns-clause-meant c = λ bytes ts h.
    let start = c.bounds-start.result.0 in
    let end = c.bounds-start.result.1 in
    let len : c.len.result ≡ length ts = c.len.ensures bytes ts h in
    same_outcome (ap Ok (picked_only c.args.entries.now c.in-Some.entry.now ts c.len.result start end c.in-Some.ensures len c.bounds-start.ensures.within.0
    c.bounds-start.ensures.within.1 c.bounds-start.ensures.meant
    ∙ between_one ts c.len.result start end len c.bounds-start.ensures.within.1 (omega (arith, c.if-start-end.false, c.if-end-start-gt1.false, c.bounds-start.ensures.within.0))))
    (answered ((c.in_ok-found.ensures.meant bytes ts h).ok))
