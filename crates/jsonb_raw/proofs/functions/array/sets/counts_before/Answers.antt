use Rattle.jsonb_raw.proofs.Lemmas.{arith, decoded_fits, members_fit}
use Rattle.jsonb_raw.proofs.functions.array.sets.counts_before.Goals as goal

pub returns-in-First-clause-counts : goal.returns-in-First-clause-counts
returns-in-First-clause-counts c = λ form t d.
    let fit = members_fit t (decoded_fits form c.args.others.now t (λ i. omega (arith, c.type_inv.others i)) d) in
    rw c.in-First.is (record { counts = c.new.ensures; fit_other = fit; fit_before = tt })
