use Rattle.jsonb_raw.proofs.Lemmas.{refl, ap, ◌∙◌, arith, complement_byte, digit_packed}
use Rattle.jsonb_raw.proofs.key_bytes.pack_digits.Goals as goal

pub loop-left-preserved : goal.loop-left-preserved
loop-left-preserved c =
    digit_packed _ _ _ _ _ c.loop-left.invariant _ _ _ _ (omega arith) refl c.prepend-packed.ensures.len
    (c.complement_byte-in-loop-left.ensures ∙ ap (complement_byte c.args.negative) (omega arith)) c.prepend-packed.ensures.bytes
