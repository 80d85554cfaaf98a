use Rattle.jsonb.proofs.Lemmas.{◌≡◌, refl, sym, subst, ReturnsAtBoth, zip_along, called_at}
use Rattle.jsonb.proofs.selector.column.Column.both.Goals as goal
use Rattle.jsonb.proofs.selector.column.Column.both.Goals.{in-Same-Each+in_ok-made-in-Same-Each, in-Each-Same+in_ok-made-in-Each-Same, in-Each-Each+in_ok-made-in-Each-Each}

pub returns-in-Same-Same-clause-made : goal.returns-in-Same-Same-clause-made
returns-in-Same-Same-clause-made g c =
    rw (c.in-Same-Same.is-0, c.in-Same-Same.is-1) (record { first = _; second = _; shows = (refl, refl); says = record { met = c.f.ensures } })

pub returns-clause-made : goal.returns-clause-made
returns-clause-made g c = elim c.match-self.branch [
  | in-Same-Each+in_ok-made-in-Same-Each w ↦ rw (w.in-Same-Each.is-0, w.in-Same-Each.is-1, w.made-is)
      (zip_along _ _ (λ x z p. called_at p (λ x. ReturnsAtBoth g.F.Fn c.args.f w.in-Same-Each.left x z) (λ b post. let k = post.said-raw.1.1.0 in let is : z ≡ k.result = post.said-raw.1.1.1 in
      subst (λ r. ReturnsAtBoth g.F.Fn c.args.f w.in-Same-Each.left b.now r) (sym is)
      (record { first = _; second = _; shows = (refl, refl); says = record { met = k.ensures } }))) w.in-Same-Each.rights.items w.in_ok-made-in-Same-Each.made.items
      (rw w.deref.ensures.value at w.in_ok-made-in-Same-Each.ensures.made))
  | in-Each-Same+in_ok-made-in-Each-Same w ↦ rw (w.in-Each-Same.is-0, w.in-Each-Same.is-1, w.made-is)
      (zip_along _ _ (λ x z p. called_at p (λ x. ReturnsAtBoth g.F.Fn c.args.f x w.in-Each-Same.right z) (λ b post. let k = post.said-raw.1.1.0 in let is : z ≡ k.result = post.said-raw.1.1.1 in
      subst (λ r. ReturnsAtBoth g.F.Fn c.args.f b.now w.in-Each-Same.right r) (sym is)
      (record { first = _; second = _; shows = (refl, refl); says = record { met = k.ensures } })))
      w.in-Each-Same.lefts.items w.in_ok-made-in-Each-Same.made.items (rw w.deref-in-Each-Same.ensures.value at w.in_ok-made-in-Each-Same.ensures.made))
  | in-Each-Each+in_ok-made-in-Each-Each w ↦ rw (w.in-Each-Each.is-0, w.in-Each-Each.is-1, w.made-is)
      (rw (w.deref-in-Each-Each.ensures.value, w.deref-in-Each-Each-2.ensures.value) at w.in_ok-made-in-Each-Each.ensures.made)
]
