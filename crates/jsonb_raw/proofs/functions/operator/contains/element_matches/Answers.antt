use Rattle.jsonb_raw.proofs.Lemmas.{rules, arith, true, false, ◌≡◌, sym, ◌∙◌, array, is_part_of, SomeElements-all, SomeElements-first, SomeElements-error, SomeElements-none}
use Rattle.jsonb_raw.proofs.functions.operator.contains.element_matches.Goals as goal

pub returns-in_err-found-clause-answer : goal.returns-in_err-found-clause-answer
returns-in_err-found-clause-answer c = λ form other_form xs y d s. absurd (c.in_err-found.ensures.decodes form (array xs) d)

pub returns-in_default-clause-answer : goal.returns-in_default-clause-answer
returns-in_default-clause-answer c = λ form other_form xs y d s. absurd (rw c.in_default.is at (c.in_ok-found.ensures.decodes form (array xs) d))

pub loop-item-init : goal.loop-item-init
loop-item-init c = record {
  room = search rules;
  left = λ form other_form xs y d s. search (SomeElements-all, c.in-Some.is, c.into_iter-item-iterator.ensures.into_iter_gives, c.in_ok-found.ensures.decodes);
}

pub returns-in_err-item-clause-answer : goal.returns-in_err-item-clause-answer
returns-in_err-item-clause-answer c = λ form other_form xs y d s.
    SomeElements-error form _ _ _ _ _ c.in_err-item.was c.in-Some-item.ensures.steps (c.loop-item.invariant.left form other_form xs y d s)

pub returns-in_err-item_matches-clause-answer : goal.returns-in_err-item_matches-clause-answer
returns-in_err-item_matches-clause-answer c = λ form other_form xs y d s.
    SomeElements-first form _ _ _ _ _ c.in_ok-item.was c.in-Some-item.ensures.steps (c.loop-item.invariant.left form other_form xs y d s)
    (λ first rest left stands fact. absurd (c.in_err-item_matches.ensures.answer form other_form first y stands s))

pub returns-then-branch-clause-answer : goal.returns-then-branch-clause-answer
returns-then-branch-clause-answer c = λ form other_form xs y d s.
    SomeElements-first form _ _ _ _ _ c.in_ok-item.was c.in-Some-item.ensures.steps (c.loop-item.invariant.left form other_form xs y d s)
    (λ first rest left stands fact.
    let yes : is_part_of y first ≡ true = sym (c.in_ok-item_matches.ensures.answer form other_form first y stands s) ∙ c.if-branch.true in
    rw yes at fact)

pub loop-item-preserved : goal.loop-item-preserved
loop-item-preserved c = record {
  room = omega (arith, c.in-Some-item.ensures.steps.any_bytes.room);
  left = λ form other_form xs y d s.
      SomeElements-first form _ _ _ _ _ c.in_ok-item.was c.in-Some-item.ensures.steps (c.loop-item.invariant.left form other_form xs y d s)
      (λ first rest left stands fact.
      let no : is_part_of y first ≡ false = sym (c.in_ok-item_matches.ensures.answer form other_form first y stands s) ∙ c.if-branch.false in
      record { trees = rest; left = left; fact = rw no at fact });
}

pub returns-clause-answer : goal.returns-clause-answer
returns-clause-answer c = λ form other_form xs y d s.
    SomeElements-none form _ _ _ c.in-None.ensures.steps (c.loop-item.invariant.left form other_form xs y d s)
