use Rattle.jsonb_raw.proofs.Lemmas.{inl, refl, arith, decoded_fits, as_elements, failed, members_few}
use Rattle.jsonb_raw.proofs.functions.array.sets.kept_beside.Goals as goal

pub returns-in-Some-clause-made : goal.returns-in-Some-clause-made
returns-in-Some-clause-made c = λ form other_form t u d e.
    let both = rw c.in-Some.is at (c.in_ok-entries.ensures.few form other_form t u d e) in
    let few = members_few t (decoded_fits form c.args.bytes.now t (λ i. omega (arith, c.type_inv.bytes i)) d) in
    c.kept_elements.ensures.made form (as_elements u) (as_elements t) both.0
    (record { other_form = other_form; all_hold = both.0; others_hold = both.1; passed_is = refl; few = omega (arith, few) })

pub returns-in_err-counts-clause-made : goal.returns-in_err-counts-clause-made
returns-in_err-counts-clause-made c = λ form other_form t u d e.
    failed _ _ _ c.from_residual-in_err-counts.ensures.1 (inl (c.in_err-counts.ensures.counts other_form u e))

pub returns-clause-made : goal.returns-clause-made
returns-clause-made c = grind arith
