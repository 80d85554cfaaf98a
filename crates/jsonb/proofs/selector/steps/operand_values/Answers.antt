use Rattle.jsonb.proofs.Lemmas.{Ok, flat_map, ap, ◌∙◌, and_then, values_of_item, operand_values, values_view, arith, paths_is, same_outcome, followed, same_values, from_start}
use Rattle.jsonb.proofs.selector.steps.operand_values.Goals as goal

pub returns-in_err-found-in-Paths-clause-meant : goal.returns-in_err-found-in-Paths-clause-meant
returns-in_err-found-in-Paths-clause-meant c = λ top u r s.
    let mode = c.args.current.context.now.mode in
    grind (
      arith,
      c.from_residual.ensures.1,
      paths_is c.args.e.now c.in-Paths.steps c.in-Paths.is,
      from_start mode _ _ _ top u c.deref-in-Paths.ensures.value c.deref.ensures.value,
      c.in_err-found-in-Paths.ensures.meant top _ r (c.start_spot-first.ensures top u r s),
    )

pub returns-in_ok-found-in-Paths-clause-meant : goal.returns-in_ok-found-in-Paths-clause-meant
returns-in_ok-found-in-Paths-clause-meant c = λ top u r s.
    let mode = c.args.current.context.now.mode in
    same_outcome (ap (λ x. operand_values mode x top u) (paths_is c.args.e.now c.in-Paths.steps c.in-Paths.is)
    ∙ ap (λ o. and_then o (λ ts. Ok (flat_map values_of_item ts)))
    (from_start mode _ _ _ top u c.deref-in-Paths.ensures.value c.deref.ensures.value))
    (followed (λ ts. Ok (flat_map values_of_item ts)) (c.in_ok-found-in-Paths.ensures.meant top _ r (c.start_spot-first.ensures top u r s))
    (λ ts found. same_values c.args.repeats values_view values_of_item found.0 ts found.2 (c.found_values.ensures.meant found.0 found.1)))
