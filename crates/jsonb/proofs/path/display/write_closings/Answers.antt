use Rattle.jsonb.proofs.Lemmas.{rules, [], ◌++◌, refl, sym, ap, ◌∙◌, has_written_append, has_written_of_eq, writes_in_calls_nil, expression_view, closing, down_of, one_down, seen, parts_of, fewer_parts}
use Rattle.std.proofs.lemmas.List.{append-nil}
use Rattle.jsonb.proofs.path.display.write_closings.Goals as goal

pub loop-next-init : goal.loop-next-init
loop-next-init g c plain = ([], record { wrote = writes_in_calls_nil _ _; plain = plain }, refl)

pub loop-next-preserved : goal.loop-next-preserved
loop-next-preserved g c plain =
    let e = expression_view c.in-Some.inner.now in
    let had = c.loop-next.invariant plain in
    let more = has_written_of_eq _ _ _ _ _ c.closing_of.ensures (c.in_ok-write_str.ensures.writes had.1.plain refl) in (
      had.0 ++ closing e,
      has_written_append _ _ _ _ _ _ had.1 more,
      one_down closing had.0 _ e _ c.last_of-next.ensures (ap (λ o. had.0 ++ down_of closing (seen o)) (sym c.in-Some.is) ∙ had.2),
    )

pub loop-next-smaller : goal.loop-next-smaller
loop-next-smaller c = search (rules, parts_of, seen, fewer_parts)

pub returns : goal.returns
returns c = search (rules, append-nil, down_of, seen)
