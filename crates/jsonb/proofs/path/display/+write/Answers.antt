use Rattle.jsonb.proofs.Lemmas.{rules, ◌≡◌, ◌+◌, ◌-◌, ◌/◌, ◌++◌, refl, sym, ap, ◌∙◌, arith, has_written_append, has_written_of_eq, expression_text, steps_of, steps_view, expression_view, fronts_text, links_text, steps_before, text_before, parts, chain_text, links_halved, steps_before-end, down_of, one_down, seen, parts_of, fewer_parts, whole_text, row_parts, row_parts-last, step_parts-among, below_parts, steps_text-take_more}
use Rattle.std.proofs.lemmas.List.{append-nil}
use Rattle.jsonb.proofs.path.display.+write.Goals as goal

pub write_steps-loop-step-preserved : goal.write_steps-loop-step-preserved
write_steps-loop-step-preserved g t c plain =
    let had = c.loop-step.invariant plain in
    has_written_of_eq _ _ _ _ _ (steps_text-take_more c.args.steps.now c.loop-step.step-index c.step-item.result (omega arith))
    (has_written_append _ _ _ _ _ _ had (rw (← c.step-item.is) (c.in_ok-write_step.ensures had.plain refl)))

pub write_expression-returns : goal.write_expression-returns
write_expression-returns g t c plain ok =
    let before = c.in_ok-write_down.ensures plain refl in
    has_written_of_eq _ _ _ _ _ (sym (whole_text (expression_view c.args.expression.now)))
    (has_written_append _ _ _ _ _ _ before (c.write_closings.ensures before.plain ok))

pub write_down-loop-next-init : goal.write_down-loop-next-init
write_down-loop-next-init g t c = grind arith

pub write_down-loop-next-preserved : goal.write_down-loop-next-preserved
write_down-loop-next-preserved g t c =
    let e = expression_view c.in-Some.inner.now in
    let was = ap (λ o. parts_of (seen o)) c.in-Some.is in
    let is = ap parts_of c.last_of-next.ensures in
    let less = fewer_parts e in
    record {
      written = λ plain.
          let had = c.loop-next.invariant.written plain in
          let more = c.in_ok-write_before.ensures had.1.plain refl in (
            had.0 ++ text_before e,
            has_written_append _ _ _ _ _ _ had.1 more,
            one_down text_before had.0 _ e _ c.last_of-next.ensures (ap (λ o. had.0 ++ down_of text_before (seen o)) (sym c.in-Some.is) ∙ had.2),
          );
      fewer = omega (arith, c.loop-next.invariant.fewer);
    }

pub write_down-loop-next-smaller : goal.write_down-loop-next-smaller
write_down-loop-next-smaller c = search (rules, parts_of, seen, fewer_parts)

pub write_down-returns : goal.write_down-returns
write_down-returns c = search (rules, append-nil, down_of, seen)

pub write_before_last-write_steps-requires : goal.write_before_last-write_steps-requires
write_before_last-write_steps-requires c = search (rules, row_parts, row_parts-last)

pub write_before_last-write_step_before-requires : goal.write_before_last-write_step_before-requires
write_before_last-write_step_before-requires c = search (rules, row_parts, row_parts-last)

pub write_before_last-returns : goal.write_before_last-returns
write_before_last-returns g t c plain ok =
    let front = c.in_ok-write_steps.ensures plain refl in
    has_written_of_eq _ _ _ _ _ (sym (ap (λ ss. steps_before (steps_of (steps_view ss))) (sym c.deref.ensures.value ∙ c.in-Some.ensures.cases.0)
    ∙ steps_before-end c.in-Some.others.now c.in-Some.last.now))
    (has_written_append _ _ _ _ _ _ front (c.write_step_before.ensures front.plain ok))

pub write_chain-write_expression-requires : goal.write_chain-write_expression-requires
write_chain-write_expression-requires c = search (rules, below_parts, parts)

pub write_chain-returns : goal.write_chain-returns
write_chain-returns g t c plain ok =
    let e = expression_view c.args.expression.now in
    let n = c.links_of-links.result in
    let front = c.in_ok-write_fronts.ensures plain refl in
    let inner = c.in_ok-write_expression.ensures front.plain refl in
    has_written_of_eq _ _ _ _ _ (ap (λ x. fronts_text n e ++ expression_text x ++ links_text n e) c.below.ensures ∙ sym (chain_text n e))
    (has_written_append _ _ _ _ _ _ (has_written_append _ _ _ _ _ _ front inner) (c.write_links.ensures inner.plain ok))

pub write_links-write_links-requires : goal.write_links-write_links-requires
write_links-write_links-requires c = search (rules, below_parts, parts)

pub write_links-returns-in_ok-write_links-in_default : goal.write_links-returns-in_ok-write_links-in_default
write_links-returns-in_ok-write_links-in_default g t c plain ok =
    let e = expression_view c.args.chain.now in
    let n = c.args.links in
    let whole : n - n / 2 + n / 2 ≡ n = omega arith in
    let inner = c.in_ok-write_links-in_default.ensures plain refl in
    has_written_of_eq _ _ _ _ _ (ap (λ x. links_text (n - n / 2) x ++ links_text (n / 2) e) c.below.ensures
    ∙ sym (links_halved (n - n / 2) (n / 2) e) ∙ ap (λ k. links_text k e) whole)
    (has_written_append _ _ _ _ _ _ inner (c.write_links-in_default.ensures inner.plain ok))

pub write_steps-write_step-requires : goal.write_steps-write_step-requires
write_steps-write_step-requires c = search (rules, step_parts-among, row_parts)
