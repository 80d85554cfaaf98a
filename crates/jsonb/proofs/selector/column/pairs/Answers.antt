use Rattle.jsonb.proofs.Lemmas.{◌≡◌, ◌+◌, ◌<◌, ◌∷◌, [], ◌∙◌, suc, length, sym, ap, refl, subst, drop, drop-cons, drop_of_length-le, add-one, append_assoc, append-nil, ReturnsAtBoth, arith, pairs_end, pairs_none}
use Rattle.jsonb.proofs.selector.column.pairs.Goals as goal

pub loop-left-preserved : goal.loop-left-preserved
loop-left-preserved g c = λ zs h.
    let xs = c.args.lefts.now in
    let i = c.loop-left.left-index in
    let x = c.left-item.result in
    let here : i < length xs = omega (arith, c.loop-left-test.true) in
    let lefts : drop i xs ≡ x ∷ drop (i + 1) xs =
    drop-cons xs i x here ∙ ap (λ y. y ∷ drop (suc i) xs) (sym c.left-item.is) ∙ ap (λ n. x ∷ drop n xs) (sym (add-one i)) in
    let at : ReturnsAtBoth g.F.Fn c.args.f x c.in-Some.right.now c.in_ok-said.said =
    subst (ReturnsAtBoth g.F.Fn c.args.f x c.in-Some.right.now) (sym c.in_ok-said.ensures.same)
    (record { first = _; second = _; shows = (refl, refl); says = record { met = c.f.ensures } }) in
    rw (c.in_ok-push.ensures.items, append_assoc c.loop-left.made.items (c.in_ok-said.said ∷ []) zs)
    (c.loop-left.invariant (c.in_ok-said.said ∷ zs) (rw (lefts, c.in-Some.ensures.cases.0) (at, h)))

pub returns-in_default-clause-made : goal.returns-in_default-clause-made
returns-in_default-clause-made g c =
    rw (append-nil c.loop-left.made.items) at (c.loop-left.invariant []
    (pairs_end _ (drop c.loop-left.left-index c.args.lefts.now) c.loop-left.rest.now c.in_default.ensures.cases))

pub returns-clause-made : goal.returns-clause-made
returns-clause-made g c =
    rw (append-nil c.loop-left.made.items) at (c.loop-left.invariant []
    (pairs_none _ (drop c.loop-left.left-index c.args.lefts.now) c.loop-left.rest.now
    (ap length (drop_of_length-le c.args.lefts.now (omega (arith, c.loop-left-test.false))))))
