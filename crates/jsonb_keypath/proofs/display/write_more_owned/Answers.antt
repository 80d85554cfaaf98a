use Rattle.jsonb_keypath.proofs.Common.{refl, true, arith, has_written_append, has_written_of_eq, other_key_text, owned_key_view}
use Rattle.jsonb_keypath.proofs.ShowLemmas.{text_of_one_more}
use Rattle.jsonb_keypath.proofs.display.write_more_owned.Goals as goal

pub loop-step-preserved : goal.loop-step-preserved
loop-step-preserved g c plain =
    let had = c.loop-step.invariant plain in
    has_written_of_eq _ _ _ _ _ (text_of_one_more other_key_text owned_key_view c.args.steps.now c.loop-step.step-index c.step-item.result (omega arith))
    (has_written_append _ _ _ _ _ _ had (rw (← c.step-item.is) (c.in_ok-write.ensures.writes had.plain (refl {a = true}))))
