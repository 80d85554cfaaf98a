use Rattle.jsonb.proofs.Lemmas.{◌≡◌, ◌<◌, ◌≤◌, ◌↔◌, ◌<ℤ◌, ◌≤ℤ◌, pos, max, arith, rules, by_lt_z, before_end}
use Rattle.jsonb.proofs.path.position.bounds_between.Goals as goal

pub returns-clause-meant : goal.returns-clause-meant
returns-clause-meant c k short =
    let low : (c.first_not_below-start.result ≤ k)
    ↔ (c.args.first ≤ℤ pos k) = (let h : k < c.args.length → (c.first_not_below-start.result ≤ k) ↔ (c.args.first ≤ℤ pos k) = search rules in h short) in
    let high : (c.first_above.result ≤ k)
    ↔ (c.args.last <ℤ pos k) =
    (let h : k < c.args.length → (c.first_above.result ≤ k) ↔ (c.args.last <ℤ pos k) = search (rules, c.first_above.ensures.splits) in h short) in
    let greatest : c.max.result ≡ max c.first_above.result c.first_not_below-start.result = search rules in (
      λ found.
          let early : k < c.first_above.result = omega (arith, found.0, found.1, greatest) in (
            short,
            low.0 found.0,
            by_lt_z c.args.last (pos k) (λ above. absurd (omega (arith, early, high.1 above))) (λ below. below),
          ),
      λ b.
          let past_start : c.first_not_below-start.result ≤ k = low.1 b.1 in
          let early : k < c.first_above.result = before_end k c.first_above.result c.args.last high.0 b.2 in
          (past_start, omega (arith, early, greatest)),
    )
