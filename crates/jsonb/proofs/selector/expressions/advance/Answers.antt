use Rattle.jsonb.proofs.Lemmas.{◌≡◌, ◌+◌, ◌-◌, drop, take, take_all, length-drop, ap, filtered_after, ◌<◌, ◌∙◌, sym, length, arith, and_then, try_flat_map, step_meaning, step_view, steps_meaning, path_steps, expression_view, step_next, step_filter, step_weighs, steps_end, lists_as}
use Rattle.jsonb.proofs.selector.expressions.advance.Goals as goal

pub returns-in-Some-clause-meant : goal.returns-in-Some-clause-meant
returns-in-Some-clause-meant c = λ top g ts lists.
    let context = c.args.context.now in
    let steps = c.args.walk.steps.now in
    let i = c.loop-next.next in
    let x = c.index-steps-next.result in
    let short : i < length steps = omega (arith, c.loop-next-test.true) in
    let inv = c.loop-next.invariant.meant top g ts lists in
    let stepped = rw c.in-Some.is at (c.in_ok-e.ensures.meant top inv.0 ts inv.1) in
    let e = expression_view c.in-Some.e.now in
    let rest : drop (i + 1) steps ≡ take (length steps - (i + 1)) (drop (i + 1) steps) =
    sym (take_all (length steps - (i + 1)) (drop (i + 1) steps) (omega (arith, length-drop (i + 1) steps))) in (
      inv.0,
      stepped.0,
      λ t. inv.2 t ∙ step_filter context steps i x e top (inv.0 t) short c.index-steps-next.is stepped.1 ∙ ap (λ l. filtered_after context top e l (inv.0 t)) rest,
    )

pub loop-next-preserved : goal.loop-next-preserved
loop-next-preserved c =
    let context = c.args.context.now in
    let steps = c.args.walk.steps.now in
    let i = c.loop-next.next in
    let x = c.index-steps-next.result in
    let short : i < length steps = omega (arith, c.loop-next-test.true) in record {
      meant = λ top g ts lists.
          let inv = c.loop-next.invariant.meant top g ts lists in (
            (λ t. and_then (inv.0 t) (try_flat_map (step_meaning context.mode (step_view x) top))),
            rw c.in_default.is at (c.in_ok-e.ensures.meant top inv.0 ts inv.1),
            λ t. inv.2 t ∙ step_next context.mode steps i x top (inv.0 t) short c.index-steps-next.is,
          );
      sound = λ lists. c.in_ok-e.ensures.sound (c.loop-next.invariant.sound lists);
      fewer = omega (arith, step_weighs steps i x short c.index-steps-next.is, c.loop-next.invariant.fewer);
    }

pub returns-clause-meant : goal.returns-clause-meant
returns-clause-meant c = λ top g ts lists.
    let mode = c.args.context.now.mode in
    let steps = c.args.walk.steps.now in
    let inv = c.loop-next.invariant.meant top g ts lists in
    lists_as c.args.context.now.document.bytes.now inv.0 (λ t. and_then (g t) (steps_meaning mode (path_steps steps) top))
    (λ t. sym (inv.2 t ∙ steps_end mode steps c.loop-next.next top (inv.0 t) (omega (arith, c.loop-next-test.false)))) c.loop-next.lists ts inv.1
