use Rattle.jsonb_raw.proofs.Lemmas.{arith, [], ◌∷◌, sym, ◌∙◌, ap, ◌++◌, width_of, parts, failed, parts_left, as_many_around, pushed_around, popped_around, SomeParts-first, SomeParts-none, falls_within, falls_beside, falls_done, stored_container, scalar_told, part_begun_at, first_refused, part_written}
use Rattle.jsonb_raw.proofs.LevelKeys.{walk_begun, part_done, level_done}
use Rattle.jsonb_raw.proofs.sortable_key.push_parts.Goals as goal

pub walk-init : goal.walk-init
walk-init c = λ form tree content.
    let begun = c.in_ok-level.ensures.key form tree content in
    parts_left form _ _ _ (parts tree) [] begun.2 (rw c.new-around.ensures.items tt)
    (walk_begun (width_of c.args.width) tree _ _ (begun.0, begun.1))

pub returns-in_err-push_name-in-Some-clause-key : goal.returns-in_err-push_name-in-Some-clause-key
returns-in_err-push_name-in-Some-clause-key c = λ form tree content.
    failed _ _ _ c.from_residual-in_err-push_name-in-Some.ensures.1 (first_refused form (width_of c.args.width) _ _ c.walk.around.items _ _ _ _ _ _ _ _
    (λ ps h. rw c.in-Some.is at (c.in_ok-name.ensures.takes form ps h)) (c.walk.invariant form tree content) (omega (arith, c.len-value.ensures))
    (λ part keyed is. c.in_err-push_name-in-Some.ensures.key part.0 keyed))

pub returns-in_err-inner-in-Some-clause-key : goal.returns-in_err-inner-in-Some-clause-key
returns-in_err-inner-in-Some-clause-key c = λ form tree content.
    failed _ _ _ c.from_residual-in_err-inner-in-Some.ensures.1 (first_refused form (width_of c.args.width) _ _ c.walk.around.items _ _ _ _ _ _ _ _
    (λ ps h. rw c.in-Some.is at (c.in_ok-name.ensures.takes form ps h)) (c.walk.invariant form tree content) (omega (arith, c.len-value.ensures))
    (λ part keyed is.
    c.in_err-inner-in-Some.ensures.key form part.1 (stored_container form _ part.1 is (sym c.is_container.ensures ∙ c.if-is_container.true))))

pub walk-smaller-then-is_container : goal.walk-smaller-then-is_container
walk-smaller-then-is_container c =
    falls_within _ _ _ _ _ _ (rw c.in-Some.is at c.in_ok-name.ensures.smaller) c.in_ok-inner-in-Some.ensures.within c.in_ok-push-in-Some.ensures.items

pub walk-preserved-then-is_container : goal.walk-preserved-then-is_container
walk-preserved-then-is_container c = λ form tree content.
    SomeParts-first form _ _ _ _ _ _ (λ ps h. rw c.in-Some.is at (c.in_ok-name.ensures.takes form ps h)) (c.walk.invariant form tree content)
    (λ part rest others keyed is left around fact.
    let inner = stored_container form _ part.1 is (sym c.is_container.ensures ∙ c.if-is_container.true) in
    let begun = c.in_ok-inner-in-Some.ensures.key form part.1 inner in
    parts_left form _ _ _ (parts part.1) (rest ∷ others) begun.2 (pushed_around form _ _ _ rest others c.in_ok-push-in-Some.ensures.items left around)
    (part_begun_at (width_of c.args.width) part rest others _ _ _ _ _ _
    (omega (arith, c.len-value.ensures, as_many_around form c.walk.around.items others around)) fact
    (part_written (width_of c.args.width) part _ _ _ _ (c.in_ok-push_name-in-Some.ensures.key part.0 keyed) begun.0, begun.1)))

pub walk-smaller-in-Continue-branch-7 : goal.walk-smaller-in-Continue-branch-7
walk-smaller-in-Continue-branch-7 c = falls_beside _ _ c.walk.around.items _ (rw c.in-Some.is at c.in_ok-name.ensures.smaller)

pub walk-preserved-in-Continue-branch-7 : goal.walk-preserved-in-Continue-branch-7
walk-preserved-in-Continue-branch-7 c = λ form tree content.
    SomeParts-first form _ _ _ _ _ _ (λ ps h. rw c.in-Some.is at (c.in_ok-name.ensures.takes form ps h)) (c.walk.invariant form tree content)
    (λ part rest others keyed is left around fact.
    let scalar = scalar_told form _ part.1 is (sym c.is_container.ensures ∙ c.if-is_container.false) in
    let begun = c.in_ok-push_scalar-in-Some.ensures.key form part.1 is scalar in
    parts_left form _ _ _ rest others left around
    (part_done (width_of c.args.width) part rest others _ _ _ _ (grind (arith, scalar))
    (part_begun_at (width_of c.args.width) part rest others _ _ _ _ _ _
    (omega (arith, c.len-value.ensures, as_many_around form c.walk.around.items others around)) fact (
      part_written (width_of c.args.width) part _ _ _ _ (c.in_ok-push_name-in-Some.ensures.key part.0 keyed)
          (begun.0 ∙ ap (λ x. c.push_name.new.out.items ++ x) (sym (grind (arith, scalar)))),
      begun.1,
    ))))

pub returns-in_err-push_scalar-in-Some-clause-key : goal.returns-in_err-push_scalar-in-Some-clause-key
returns-in_err-push_scalar-in-Some-clause-key c = λ form tree content.
    failed _ _ _ c.from_residual-in_err-push_scalar-in-Some.ensures.1 (first_refused form (width_of c.args.width) _ _ c.walk.around.items _ _ _ _ _ _ _ _
    (λ ps h. rw c.in-Some.is at (c.in_ok-name.ensures.takes form ps h)) (c.walk.invariant form tree content) (omega (arith, c.len-value.ensures))
    (λ part keyed is.
    c.in_err-push_scalar-in-Some.ensures.key form part.1 is (scalar_told form _ part.1 is (sym c.is_container.ensures ∙ c.if-is_container.false))))

pub walk-smaller : goal.walk-smaller
walk-smaller c = falls_done _ _ _ _ c.in-Some-pop.ensures.items

pub walk-preserved : goal.walk-preserved
walk-preserved c = λ form tree content.
    SomeParts-none form _ _ _ _ (λ ps h. rw c.in-None.is at (c.in_ok-name.ensures.takes form ps h)) (c.walk.invariant form tree content)
    (λ others around fact.
    popped_around form _ _ _ others c.in-Some-pop.ensures.items around
    (λ here more same left outside. parts_left form _ _ _ here more left outside
    (rw same at (level_done (width_of c.args.width) others _ _ _ _ fact))))
