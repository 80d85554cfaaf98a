use Rattle.jsonb.proofs.Lemmas.{◌≡◌, [], ◌∷◌, Ok, ap, sym, ◌∙◌, append-nil, flat_map, compare, values_view, values_of_item, arith, failed_as, only_memory, same_outcome}
use Rattle.jsonb.proofs.selector.compared_member.items_compared.Goals as goal

pub returns-in_err-l-clause-meant : goal.returns-in_err-l-clause-meant
returns-in_err-l-clause-meant c = λ t u m n. absurd (c.in_err-l.ensures.number t m)

pub returns-in_err-r-clause-meant : goal.returns-in_err-r-clause-meant
returns-in_err-r-clause-meant c = λ t u m n. absurd (c.in_err-r.ensures.number u n)

pub returns-in-Some-Some-clause-meant : goal.returns-in-Some-Some-clause-meant
returns-in-Some-Some-clause-meant c = λ t u m n.
    grind (arith, c.in_ok-l.ensures.number t m, c.in_ok-r.ensures.number u n, c.numbers_truth.ensures, c.to_number.ensures.view)

pub returns-in_err-rights-clause-meant : goal.returns-in_err-rights-clause-meant
returns-in_err-rights-clause-meant c = λ t u m n.
    failed_as c.from_residual-in_err-rights.ensures.1 (only_memory (c.in_err-rights.ensures.meant (u ∷ []) (rw c.spot_by_parts.ensures n, tt)))

pub returns-clause-meant : goal.returns-clause-meant
returns-clause-meant c = λ t u m n.
    let values : values_view c.in_ok-rights.rights ≡ flat_map values_of_item (u ∷ []) = (c.in_ok-rights.ensures.meant (u ∷ []) (rw c.spot_by_parts.ensures n, tt)).ok in
    same_outcome (ap (λ v. Ok (compare c.args.op (values_of_item t) v)) (sym (append-nil (values_of_item u)) ∙ sym values ∙ sym c.as_slice.ensures))
    (c.compared_truth.ensures.meant t m)
