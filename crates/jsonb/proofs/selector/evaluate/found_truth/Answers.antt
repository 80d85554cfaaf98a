use Rattle.jsonb.proofs.Lemmas.{[], ◌∷◌, Ok, Some, ap, sym, ◌∙◌, and_then, Locates, steps_meaning, is_some, first_item, steps_of, steps_view, failed_as, first_refused, same_outcome, one_ok, refused_steps, found_is_item}
use Rattle.jsonb.proofs.selector.evaluate.found_truth.Goals as goal

pub returns-in-Compared-clause-meant : goal.returns-in-Compared-clause-meant
returns-in-Compared-clause-meant c = λ e top t q m g.
    c.literal_truth.ensures.meant e c.args.mode top t (rw c.in-Compared.is at q) (rw c.in-Compared.is at g)

pub returns-in_err-member-in-MemberFound-clause-meant : goal.returns-in_err-member-in-MemberFound-clause-meant
returns-in_err-member-in-MemberFound-clause-meant c = λ e top t q m g.
    let k = rw c.in-MemberFound.is at q in
    failed_as c.from_residual.ensures.1 (same_outcome (k.finds c.args.mode top t
    ∙ ap (λ l. and_then (steps_meaning c.args.mode (steps_of l) top (t ∷ [])) (λ ts. Ok (Some (is_some (first_item ts))))) (sym (refused_steps (steps_view c.in-MemberFound.field-0.names.now))))
    (first_refused _ (rw c.in_err-member-in-MemberFound.was at (rw c.in-MemberFound.is at g))))

pub returns-in_ok-member-in-MemberFound-clause-meant : goal.returns-in_ok-member-in-MemberFound-clause-meant
returns-in_ok-member-in-MemberFound-clause-meant c = λ e top t q m g.
    let k = rw c.in-MemberFound.is at q in
    same_outcome (k.finds c.args.mode top t
    ∙ ap (λ l. and_then (steps_meaning c.args.mode (steps_of l) top (t ∷ [])) (λ ts. Ok (Some (is_some (first_item ts))))) (sym (refused_steps (steps_view c.in-MemberFound.field-0.names.now))))
    (one_ok (λ ts. Ok (Some (is_some (first_item ts)))) (rw c.in_ok-member-in-MemberFound.was at (rw c.in-MemberFound.is at g))
    (λ us related. ap Some (c.is_some.ensures ∙ found_is_item (Locates c.args.bytes.now) _ us related)))
