use Rattle.jsonb.proofs.Lemmas.{◌≡◌, ◌+◌, ◌<◌, ◌++◌, ◌∷◌, [], ◌∙◌, length, sym, ap, refl, subst, take, take_all, arith, AllZip-append}
use Rattle.std.specs.Fn.{FnReturnsAt}
use Rattle.std.proofs.lemmas.Fn.{says_at}
use Rattle.std.proofs.lemmas.Grind.{take_at_read}
use Rattle.jsonb.proofs.selector.column.each.Goals as goal

pub loop-value-preserved : goal.loop-value-preserved
loop-value-preserved g c =
    let xs = c.args.values.now in
    let i = c.loop-value.value-index in
    let y = c.value-item.result in
    let here : i < length xs = omega (arith, c.loop-value-test.true) in
    let more : take (i + 1) xs ≡ take i xs ++ y ∷ [] =
    (take_at_read xs i y here).1 ∙ ap (λ (x : _). take i xs ++ x ∷ []) (sym c.value-item.is) in
    let at : FnReturnsAt g.F.Fn c.args.f y c.in_ok-said.said =
    subst (FnReturnsAt g.F.Fn c.args.f y) (sym c.in_ok-said.ensures.same) (says_at g.F.Fn c.f.ensures refl) in
    rw (more, c.in_ok-push.ensures.items)
    (AllZip-append (FnReturnsAt g.F.Fn c.args.f) (take i xs) (y ∷ []) c.loop-value.made.items (c.in_ok-said.said ∷ []) c.loop-value.invariant (at, tt))

pub returns-clause-made : goal.returns-clause-made
returns-clause-made g c = rw (take_all c.loop-value.value-index c.args.values.now (omega (arith, c.loop-value-test.false))) at c.loop-value.invariant
