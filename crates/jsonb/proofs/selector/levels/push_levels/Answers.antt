use Rattle.jsonb.proofs.Lemmas.{rules, inl, sym, refl, arith, answered, failed_with, no_levels, walk_begun, leaves_passed, item_passed, item_entered, level_done, walk_done, told_first, falls_within, falls_beside, falls_done, range_taken}
use Rattle.jsonb.proofs.BelowLemmas.{all_passed}
use Rattle.jsonb.proofs.selector.levels.push_levels.Goals as goal

pub returns-in_err-below-clause-meant : goal.returns-in_err-below-clause-meant
returns-in_err-below-clause-meant c = λ u n before l m a. grind (arith, c.in_err-below.ensures.meant c.args.levels u n before c.of_step-range.ensures l m a)

pub returns-in_default-clause-meant : goal.returns-in_default-clause-meant
returns-in_default-clause-meant c = λ u n before l m a.
    let told = rw c.in_default.is at (c.in_ok-below.ensures.meant c.args.levels u n before c.of_step-range.ensures l m a) in answered
    (rw (sym told.1) at told.0)

pub walk-init : goal.walk-init
walk-init c = record {
  whole = λ u n before l m a.
      let told = rw c.in-Some.is at (c.in_ok-below.ensures.meant c.args.levels u n before c.of_step-range.ensures l m a) in
      walk_begun c.args.bytes.now c.args.levels _ _ _ before told.1.0 n u c.new-around.ensures.items told.0 told.1.1 told.1.2;
}

pub returns-in_err-container-clause-meant : goal.returns-in_err-container-clause-meant
returns-in_err-container-clause-meant c = λ u n before l m a.
    let w = c.walk.invariant.whole u n before l m a in
    failed_with c.from_residual-in_err-container.ensures.1
    (inl (c.in_err-container.ensures.meant c.args.bytes.now c.args.levels w.level w.here w.given
    (range_taken c.args.levels _ _ w.level _ c.of_step-range.ensures w.deep c.contains-is_taken.ensures) w.left w.done))

pub returns-in_err-below-in-Some-2-clause-meant : goal.returns-in_err-below-in-Some-2-clause-meant
returns-in_err-below-in-Some-2-clause-meant c = λ u n before l m a.
    let w = c.walk.invariant.whole u n before l m a in
    let v = leaves_passed c.args.bytes.now c.args.levels _ _ _ _ _ _ _ w
    (rw c.in-Some-2.is at (c.in_ok-container.ensures.meant c.args.bytes.now c.args.levels w.level w.here w.given
    (range_taken c.args.levels _ _ w.level _ c.of_step-range.ensures w.deep c.contains-is_taken.ensures) w.left w.done)) in
    grind (
      arith,
      c.from_residual-in_err-below-in-Some-2.ensures.1,
      c.in_err-below-in-Some-2.ensures.meant c.args.levels v.left.first v.level v.given c.of_step-range.ensures v.deep v.left.holds v.done,
    )

pub walk-smaller-in-Some-below : goal.walk-smaller-in-Some-below
walk-smaller-in-Some-below c =
    falls_within _ _ _ _ _ _ (rw c.in-Some-2.is at c.in_ok-container.ensures.size) (rw c.in-Some-2.is at c.in_ok-container.ensures.room)
    (rw c.in-Some-2.is at c.in_ok-container.ensures.bound)
    (rw c.in-Some-below.is at c.in_ok-below-in-Some-2.ensures.room) (rw c.in-Some-below.is at c.in_ok-below-in-Some-2.ensures.bound)
    c.in_ok-keep_level-in-Some-2.ensures.kept

pub walk-preserved-in-Some-below : goal.walk-preserved-in-Some-below
walk-preserved-in-Some-below c = record {
  whole = λ u n before l m a.
      let w = c.walk.invariant.whole u n before l m a in
      let v = leaves_passed c.args.bytes.now c.args.levels _ _ _ _ _ _ _ w
      (rw c.in-Some-2.is at (c.in_ok-container.ensures.meant c.args.bytes.now c.args.levels w.level w.here w.given
      (range_taken c.args.levels _ _ w.level _ c.of_step-range.ensures w.deep c.contains-is_taken.ensures) w.left w.done)) in
      item_entered c.args.bytes.now c.args.levels _ _ _ _ _ _ _ v
      (told_first v.left (λ t marks given done. rw c.in-Some-below.is at (c.in_ok-below-in-Some-2.ensures.meant c.args.levels t
      v.level given
      c.of_step-range.ensures v.deep marks done)))
      refl c.in_ok-keep_level-in-Some-2.ensures.kept;
}

pub walk-smaller-in_default-below : goal.walk-smaller-in_default-below
walk-smaller-in_default-below c = search (rules, falls_beside)

pub walk-preserved-in_default-below : goal.walk-preserved-in_default-below
walk-preserved-in_default-below c = record {
  whole = λ u n before l m a.
      let w = c.walk.invariant.whole u n before l m a in
      let v = leaves_passed c.args.bytes.now c.args.levels _ _ _ _ _ _ _ w
      (rw c.in-Some-2.is at (c.in_ok-container.ensures.meant c.args.bytes.now c.args.levels w.level w.here w.given
      (range_taken c.args.levels _ _ w.level _ c.of_step-range.ensures w.deep c.contains-is_taken.ensures) w.left w.done)) in
      item_passed c.args.bytes.now c.args.levels _ _ _ _ _ v
      (told_first v.left (λ t marks given done. rw c.in_default-below.is at (c.in_ok-below-in-Some-2.ensures.meant c.args.levels t
      v.level given
      c.of_step-range.ensures v.deep marks done)))
      refl;
}

pub walk-smaller : goal.walk-smaller
walk-smaller c = falls_done _ _ _ _ c.in-Some-pop.ensures.items

pub walk-preserved : goal.walk-preserved
walk-preserved c = record {
  whole = λ u n before l m a.
      let w = c.walk.invariant.whole u n before l m a in
      level_done c.args.bytes.now c.args.levels _ _ _ _ _
      (all_passed c.args.bytes.now c.args.levels _ _ _ _ _ w
      (rw c.in-None.is at (c.in_ok-container.ensures.meant c.args.bytes.now c.args.levels w.level w.here w.given
      (range_taken c.args.levels _ _ w.level _ c.of_step-range.ensures w.deep c.contains-is_taken.ensures) w.left w.done)))
      c.in-Some-pop.ensures.items;
}

pub returns-in-None-pop-clause-meant : goal.returns-in-None-pop-clause-meant
returns-in-None-pop-clause-meant c = λ u n before l m a.
    let w = c.walk.invariant.whole u n before l m a in answered
    (walk_done c.args.bytes.now c.args.levels _ _ _
    (all_passed c.args.bytes.now c.args.levels _ _ _ _ _ w
    (rw c.in-None.is at (c.in_ok-container.ensures.meant c.args.bytes.now c.args.levels w.level w.here w.given
    (range_taken c.args.levels _ _ w.level _ c.of_step-range.ensures w.deep c.contains-is_taken.ensures) w.left w.done)))
    (no_levels c.walk.around.items (omega (arith, c.in-None-pop.ensures.cases.0, c.walk.around.ok.0))))
