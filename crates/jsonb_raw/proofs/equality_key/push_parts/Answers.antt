use Rattle.jsonb_raw.proofs.Lemmas.{rules, ◌∷◌, arith, parts, failed, parts_left, pushed_around, popped_around, SomeParts-first, SomeParts-none, SomeParts-error, falls_within, falls_beside, falls_done, walk_begun, part_begun, part_done, all_written}
use Rattle.jsonb_raw.proofs.equality_key.push_parts.Goals as goal

pub walk-init : goal.walk-init
walk-init c = search (rules, parts_left, parts, walk_begun)

pub walk-smaller-in-Some-2 : goal.walk-smaller-in-Some-2
walk-smaller-in-Some-2 c =
    falls_within _ _ _ _ _ _ (rw c.in-Some.is at c.in_ok-key.ensures.smaller) (rw c.in-Some-2.is at c.in_ok-inner-in-Some.ensures.within)
    c.in_ok-push-in-Some.ensures.items

pub walk-preserved-in-Some-2 : goal.walk-preserved-in-Some-2
walk-preserved-in-Some-2 c = λ form tree front found started.
    SomeParts-first form _ _ _ _ _ _ (λ ps h. rw c.in-Some.is at (c.in_ok-key.ensures.takes form ps h)) (c.walk.invariant form tree front found started)
    (λ part rest others keyed is left around fact.
    let begun = rw c.in-Some-2.is at (c.in_ok-inner-in-Some.ensures.key form part keyed is) in
    parts_left form _ _ _ (parts part.1) (rest ∷ others) begun.1 (pushed_around form _ _ _ rest others c.in_ok-push-in-Some.ensures.items left around)
    (part_begun part rest others _ _ _ fact begun.0))

pub walk-smaller-in_default : goal.walk-smaller-in_default
walk-smaller-in_default c = falls_beside _ _ c.walk.around.items _ (rw c.in-Some.is at c.in_ok-key.ensures.smaller)

pub walk-preserved-in_default : goal.walk-preserved-in_default
walk-preserved-in_default c = λ form tree front found started.
    SomeParts-first form _ _ _ _ _ _ (λ ps h. rw c.in-Some.is at (c.in_ok-key.ensures.takes form ps h)) (c.walk.invariant form tree front found started)
    (λ part rest others keyed is left around fact.
    let begun = rw c.in_default.is at (c.in_ok-inner-in-Some.ensures.key form part keyed is) in
    parts_left form _ _ _ rest others left around
    (part_done part rest others _ _ _ begun.1 fact begun.0))

pub walk-smaller : goal.walk-smaller
walk-smaller c = falls_done _ _ _ _ c.in-Some-pop.ensures.items

pub walk-preserved : goal.walk-preserved
walk-preserved c = λ form tree front found started.
    SomeParts-none form _ _ _ _ (λ ps h. rw c.in-None.is at (c.in_ok-key.ensures.takes form ps h)) (c.walk.invariant form tree front found started)
    (λ others around fact.
    popped_around form _ _ _ others c.in-Some-pop.ensures.items around
    (λ here more same left outside. parts_left form _ _ _ here more left outside
    (rw same at fact)))

pub returns-in_err-key-clause-key : goal.returns-in_err-key-clause-key
returns-in_err-key-clause-key c = λ form tree front found started.
    SomeParts-error form _ _ _ _ _ (λ ps h. c.in_err-key.ensures.takes form ps h) (c.walk.invariant form tree front found started)

pub returns-in_err-inner-in-Some-clause-key : goal.returns-in_err-inner-in-Some-clause-key
returns-in_err-inner-in-Some-clause-key c = λ form tree front found started.
    SomeParts-first form _ _ _ _ _ _ (λ ps h. rw c.in-Some.is at (c.in_ok-key.ensures.takes form ps h)) (c.walk.invariant form tree front found started)
    (λ part rest others keyed is left around fact. failed _ _ _ c.from_residual-in_err-inner-in-Some.ensures.1 (c.in_err-inner-in-Some.ensures.key form part keyed is))

pub returns-in-None-pop-clause-key : goal.returns-in-None-pop-clause-key
returns-in-None-pop-clause-key c = λ form tree front found started.
    SomeParts-none form _ _ _ _ (λ ps h. rw c.in-None.is at (c.in_ok-key.ensures.takes form ps h)) (c.walk.invariant form tree front found started)
    (λ others around fact. all_written form c.walk.around.items others _ _ (omega (arith, c.in-None-pop.ensures.cases.0, c.walk.around.ok.0)) around fact)
