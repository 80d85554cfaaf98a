use Rattle.jsonb.proofs.Lemmas.{◌<◌, refl, sym, ap, subst, ◌∙◌, length, arith, made_more, made_end, written}
use Rattle.std.specs.Fn.{FnReturns}
use Rattle.jsonb.proofs.selector.lists.update.Goals as goal

pub loop-list-init : goal.loop-list-init
loop-list-init g c = refl

pub loop-list-preserved : goal.loop-list-preserved
loop-list-preserved g c =
    let i = c.loop-list.list-index in
    let lists = c.loop-list.list-items in
    let short : i < length lists = omega (arith, c.loop-list-test.true, c.loop-list.auto.list-items) in
    made_more (λ before after. FnReturns g.F.Fn c.args.f (before, tt) after) i c.deref_mut-list-items.result.now lists c.list-item.result c.in_ok-list-in-Each.field-0 short
    c.loop-list.invariant
    (subst (λ x. FnReturns g.F.Fn c.args.f (x, tt) c.in_ok-list-in-Each.field-0) c.replace-before-in-loop-list.ensures.value
    (subst (FnReturns g.F.Fn c.args.f (c.replace-before-in-loop-list.result, tt)) (sym c.in_ok-list-in-Each.ensures.same)
    (record { met = c.f-in-loop-list.ensures })))

pub returns-clause-made : goal.returns-clause-made
returns-clause-made g c =
    let start = c.deref_mut-list-items.ensures.value in
    let made = made_end (λ before after. FnReturns g.F.Fn c.args.f (before, tt) after) c.loop-list.list-index c.deref_mut-list-items.result.now c.loop-list.list-items
    (omega (arith, c.loop-list-test.false, c.loop-list.auto.list-items)) c.loop-list.invariant in
    rw (c.in-Each.is, written c.in-Each.lists c.loop-list.list-items (c.loop-list.auto.list-items ∙ ap length start)) (rw start at made)
