use Rattle.jsonb_raw.proofs.Lemmas.{arith, refl, ap, ◌∙◌, complement_byte, room_left, digit_passed}
use Rattle.jsonb_raw.proofs.key_bytes.write_digits.Goals as goal

pub write_before-first-requires-clause-some : goal.write_before-first-requires-clause-some
write_before-first-requires-clause-some c = room_left _ _ _ _ _ _ _ c.loop-long.invariant c.requires.room (omega arith)

pub loop-long-preserved : goal.loop-long-preserved
loop-long-preserved c =
    digit_passed _ _ _ _ _ _ _ c.loop-long.invariant _ _ _ _ c.requires.room (omega arith) refl
    (c.complement_byte.ensures ∙ ap (complement_byte c.args.negative) (omega arith)) c.write_before-first.ensures.place c.write_before-first.ensures.buffer

pub write_before-first-requires-in-loop-left-clause-some : goal.write_before-first-requires-in-loop-left-clause-some
write_before-first-requires-in-loop-left-clause-some c = room_left _ _ _ _ _ _ _ c.loop-left.invariant c.requires.room (omega arith)

pub loop-left-preserved : goal.loop-left-preserved
loop-left-preserved c =
    digit_passed _ _ _ _ _ _ _ c.loop-left.invariant _ _ _ _ c.requires.room (omega arith) refl
    (c.complement_byte-in-loop-left.ensures ∙ ap (complement_byte c.args.negative) (omega arith))
    c.write_before-first-in-loop-left.ensures.place c.write_before-first-in-loop-left.ensures.buffer
