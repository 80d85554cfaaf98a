use Rattle.jsonb.proofs.Lemmas.{◌≡◌, ◌+◌, ◌<◌, ◌^◌, ◌∷◌, [], refl, sym, ap, ◌∙◌, subst, length, arith, get_or, IfErr, IsSelectionError, IsList, and_then, try_flat_map, step_meaning, filter, truth, flat, each_from, zip_mapped, Said, IsFiltered, filtered_more, filtered_same, made_end, all_at, all_set, written}
use Rattle.jsonb.proofs.selector.lists.filtered.Goals as goal

pub loop-list-init : goal.loop-list-init
loop-list-init c = record {
  meant = λ bytes mode e top ts at from. (refl, (ts, at, each_from (Said (truth mode e top)) c.args.truths.now ts from));
  sound = λ mode sound truths. sound;
}

pub loop-list-preserved : goal.loop-list-preserved
loop-list-preserved c =
    let i = c.loop-list.list-index in
    let lists = c.loop-list.list-items in
    let x = c.list-item.result in
    let here : i < length lists = omega (arith, c.loop-list-test.true, c.loop-list.auto.list-items) in record {
      meant = λ bytes mode e top ts at from.
          let follows : c.loop-list.start + length (flat (get_or lists i x ∷ [])) < 2 ^ 64
          → c.saturating_add-start.result ≡ c.loop-list.start + length (flat (get_or lists i x ∷ [])) =
          λ h. omega (arith, h, c.saturating_add-start.ensures, ap length c.items_in.ensures) in
          filtered_more bytes mode e top c.args.truths.now i c.loop-list.start c.saturating_add-start.result c.deref_mut-list-items.result.now lists x
          c.in_ok-kept-in-Each.kept here follows (c.loop-list.invariant.meant bytes mode e top ts at from)
          (λ o us is zip left. subst (λ l. IsList bytes l (and_then o (try_flat_map (step_meaning mode (filter e) top)))) (sym c.in_ok-kept-in-Each.ensures.same)
          (c.kept_of-in-loop-list.ensures.meant bytes mode e top o us is zip left));
      sound = λ mode sound truths.
          let all = c.loop-list.invariant.sound mode sound truths in
          all_set (λ y. IfErr y (IsSelectionError mode)) i lists c.in_ok-kept-in-Each.kept all
          (subst (λ y. IfErr y (IsSelectionError mode)) (sym c.in_ok-kept-in-Each.ensures.same)
          (c.kept_of-in-loop-list.ensures.sound mode (all_at (λ y. IfErr y (IsSelectionError mode)) i lists x here all) truths));
    }

pub returns-in_ok-settled-in-Same-clause-meant : goal.returns-in_ok-settled-in-Same-clause-meant
returns-in_ok-settled-in-Same-clause-meant c = λ bytes mode e top g us ts lists at from.
    filtered_same bytes mode e top c.args.truths.now c.in-Same.list c.in_ok-settled-in-Same.field-0 g us ts (rw c.in-Same.is at lists) (rw c.in-Same.is at at) from
    (λ o vs is zip left. subst (λ l. IsList bytes l (and_then o (try_flat_map (step_meaning mode (filter e) top)))) (sym c.in_ok-settled-in-Same.ensures.same)
    (c.kept_of.ensures.meant bytes mode e top o vs is zip left))

pub returns-after-loop-list-clause-meant : goal.returns-after-loop-list-clause-meant
returns-after-loop-list-clause-meant c = λ bytes mode e top g us ts lists at from.
    let start = c.deref_mut-list-items.ensures.value in
    let before = rw (c.in-Each.is, sym start) at lists in
    let inv = c.loop-list.invariant.meant bytes mode e top ts (rw (c.in-Each.is, sym start) at at) from in
    let made = made_end (IsFiltered bytes mode e top c.args.truths.now) c.loop-list.list-index c.deref_mut-list-items.result.now c.loop-list.list-items
    (omega (arith, c.loop-list-test.false, c.loop-list.auto.list-items)) inv.0 in
    rw (written c.in-Each.lists c.loop-list.list-items (c.loop-list.auto.list-items ∙ ap length start))
    (zip_mapped (λ x y t p r. p (g t) r) c.deref_mut-list-items.result.now c.loop-list.list-items us made before)

pub returns-after-loop-list-clause-sound : goal.returns-after-loop-list-clause-sound
returns-after-loop-list-clause-sound c = λ mode lists truths.
    let start = c.deref_mut-list-items.ensures.value in
    rw (written c.in-Each.lists c.loop-list.list-items (c.loop-list.auto.list-items ∙ ap length start))
    (c.loop-list.invariant.sound mode (rw (c.in-Each.is, sym start) at lists) truths)
