use Rattle.jsonb_doc.proofs.Lemmas.{◌∷◌, [], ◌++◌, ◌∙◌, List, ap, sym, subst, arith, rules, append_assoc, nil_from_length, append-nil, first_rest, no_events, Happen, TextEvent, result_along, err_is, happen_more, unfinished}
use Rattle.jsonb_doc.proofs.EventListLemmas.{refused}
use Rattle.jsonb_doc.proofs.event_list.collecting.collect.Goals as goal

pub loop-left-preserved : goal.loop-left-preserved
loop-left-preserved c = record {
  utf8 = search rules;
  leads =
      let i = c.loop-left.invariant.leads in
      let x = c.in_ok-rest.ensures i.0 i.1 in
      let first = first_rest c.loop-left.left.now _ c.in-len1-up.len_at_least in (
        x.1,
        x.4,
        i.2 ++ _ ∷ [],
        i.3 ∙ ap (λ (es : List TextEvent). i.2 ++ es) first ∙ sym (append_assoc i.2 (_ ∷ []) _),
        happen_more c.args.keep_last i.2 c.args.text.now no_events c.loop-left.rest.now i.0 _ x.0 c.in_ok-rest.rest.now x.1 i.4 x.2 x.3,
      );
}

pub returns-in_err-collector : goal.returns-in_err-collector
returns-in_err-collector c = grind arith

pub returns-in_err-rest : goal.returns-in_err-rest
returns-in_err-rest c =
    let i = c.loop-left.invariant.leads in
    let all = i.3 ∙ ap (λ (es : List TextEvent). i.2 ++ es) (first_rest c.loop-left.left.now _ c.in-len1-up.len_at_least) in
    err_is _ _ _ _ c.from_residual-in_err-rest.ensures.1 (λ form. refused form _ _ i.2 _ _ _ i.0 _ _ all i.4 (c.in_err-rest.ensures i.0 i.1))

pub returns : goal.returns
returns c =
    let i = c.loop-left.invariant.leads in
    let all = i.3 ∙ ap (λ (es : List TextEvent). i.2 ++ es) (nil_from_length c.loop-left.left.now (omega arith)) ∙ append-nil i.2 in
    let happen = subst (λ (es : List TextEvent). Happen c.args.keep_last es c.args.text.now no_events c.loop-left.rest.now i.0) (sym all) i.4 in
    result_along c.finish.result _ _ _ _ (c.finish.ensures i.0 i.1)
    (λ collected x. (i.0, c.loop-left.rest.now, x.0, happen, x.1, x.2, x.3))
    (λ e due form. unfinished form c.args.keep_last c.args.events.now c.args.text.now c.loop-left.rest.now i.0 e happen due)
