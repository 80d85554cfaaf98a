use Rattle.jsonb.proofs.Lemmas.{rules, [], ◌∷◌, Ok, Some, ap, sym, ◌∙◌, and_then, Locates, steps_meaning, is_some, first_item, steps_of, steps_view, AreRefused, arith, same_outcome, one_ok, known, refused_steps, found_is_item}
use Rattle.jsonb.proofs.selector.evaluate.question_truth.Goals as goal

pub returns-in-Compared-clause-meant : goal.returns-in-Compared-clause-meant
returns-in-Compared-clause-meant c = λ e top t q m. c.item_truth.ensures.meant e top t (rw c.in-Compared.is at q) (rw c.spot_by_parts.ensures m)

pub returns-in-MembersCompared-clause-meant : goal.returns-in-MembersCompared-clause-meant
returns-in-MembersCompared-clause-meant c = λ e top t q m. grind (arith, c.members_truth.ensures.meant, c.in-MembersCompared.is, c.spot_by_parts-in-MembersCompared.ensures)

pub returns-in_err-found-in-MemberFound-clause-meant : goal.returns-in_err-found-in-MemberFound-clause-meant
returns-in_err-found-in-MemberFound-clause-meant c = λ e top t q m.
    let k = rw c.in-MemberFound.is at q in
    grind (
      arith,
      c.from_residual.ensures.1,
      k.finds c.args.mode top t,
      refused_steps (steps_view c.in-MemberFound.asked.names.now),
      c.in_err-found-in-MemberFound.ensures.meant AreRefused top t k.members (rw c.spot_by_parts-in-MemberFound.ensures m),
    )

pub returns-in_ok-found-in-MemberFound-clause-meant : goal.returns-in_ok-found-in-MemberFound-clause-meant
returns-in_ok-found-in-MemberFound-clause-meant c = λ e top t q m.
    let k = rw c.in-MemberFound.is at q in
    same_outcome (k.finds c.args.mode top t
    ∙ ap (λ l. and_then (steps_meaning c.args.mode (steps_of l) top (t ∷ [])) (λ ts. Ok (Some (is_some (first_item ts))))) (sym (refused_steps (steps_view c.in-MemberFound.asked.names.now))))
    (one_ok (λ ts. Ok (Some (is_some (first_item ts)))) (c.in_ok-found-in-MemberFound.ensures.meant AreRefused top t k.members (rw c.spot_by_parts-in-MemberFound.ensures m))
    (λ us related. ap Some (c.is_some.ensures ∙ found_is_item (Locates c.args.bytes.now) _ us related)))

pub returns-in-ChildrenCompared-clause-meant : goal.returns-in-ChildrenCompared-clause-meant
returns-in-ChildrenCompared-clause-meant c = λ e top t q m. grind (arith, c.children_truth.ensures.meant, c.in-ChildrenCompared.is, c.spot_by_parts-in-ChildrenCompared.ensures)

pub returns-in-Unknown-clause-meant : goal.returns-in-Unknown-clause-meant
returns-in-Unknown-clause-meant c = search (rules, known)
