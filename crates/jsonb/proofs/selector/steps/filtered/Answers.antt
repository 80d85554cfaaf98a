use Rattle.jsonb.proofs.Lemmas.{sym, subst, AllZip, IsAt, truth, expression_view, each_from, Said}
use Rattle.jsonb.proofs.selector.steps.filtered.Goals as goal

pub returns-in-Some-clause-meant : goal.returns-in-Some-clause-meant
returns-in-Some-clause-meant c = λ top ts r at.
    let plain = rw (sym c.as_slice-tests.ensures) at (rw c.in-Some.is at c.in_ok-condition.ensures.tests) in
    c.tested_items.ensures.meant (expression_view c.args.e.now) top ts plain
    (subst (λ l. AllZip (IsAt c.args.context.now.document) l ts) (sym c.as_slice.ensures) at)

pub returns-clause-meant : goal.returns-clause-meant
returns-clause-meant c = λ top ts r at.
    let context = c.new-evaluation.ensures.context in
    let mode = c.args.context.now.mode in
    let e = expression_view c.args.e.now in
    let known = c.in_ok-truths.ensures.meant top ts (rw context r) (rw (context, c.new-evaluation.ensures.items) at) c.new-evaluation.ensures.frames in
    c.kept.ensures.meant c.args.context.now.document.bytes.now mode e top ts
    (rw c.as_slice-2.ensures (rw (c.in_ok-truths.ensures.same, context) at known.0))
    (each_from (Said (truth mode e top)) c.in_ok-truths.truths ts (rw context at known.1))
