use Rattle.jsonb_raw.proofs.Lemmas.{arith, sym, ◌∙◌, true≢false, text_passed, text_taken, some_stored, no_text_error, text_none}
use Rattle.jsonb_raw.proofs.functions.path.name_block.next_text.Goals as goal

pub returns-in_err-entry-clause-takes : goal.returns-in_err-entry-clause-takes
returns-in_err-entry-clause-takes c = λ form ss h.
    no_text_error form _ _ ss (c.loop-entry.invariant.texts form ss h) _ _ c.in_err-entry.was c.in-Some.ensures.steps

pub returns-then-is_text-clause-takes : goal.returns-then-is_text-clause-takes
returns-then-is_text-clause-takes c = λ form ss h.
    text_taken form _ _ ss (c.loop-entry.invariant.texts form ss h) _ _ c.in_ok-entry.was c.in-Some.ensures.steps
    (sym c.is_text.ensures ∙ c.if-is_text.true)

pub returns-in_err-reject_float-clause-takes : goal.returns-in_err-reject_float-clause-takes
returns-in_err-reject_float-clause-takes c = λ form ss h.
    some_stored form _ _ ss (c.loop-entry.invariant.texts form ss h) _ _ c.in_ok-entry.was c.in-Some.ensures.steps
    (λ t stored. absurd (true≢false (sym (c.in_err-reject_float.ensures.read form t stored))))

pub returns-clause-takes : goal.returns-clause-takes
returns-clause-takes c = λ form ss h.
    text_none form _ _ ss (c.loop-entry.invariant.texts form ss h) _ c.in_default.ensures.steps

pub loop-entry-preserved : goal.loop-entry-preserved
loop-entry-preserved c = record {
  fewer = let lower = c.in-Some.ensures.goes.on tt in omega (arith, lower.2, c.loop-entry.invariant.fewer);
  texts = λ form ss h. grind (arith, text_passed);
}
