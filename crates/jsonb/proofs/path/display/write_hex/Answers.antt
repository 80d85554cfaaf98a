use Rattle.jsonb.proofs.Lemmas.{refl, arith, rules, has_written_append, has_written_of_eq, encode_with, encode_lower-take_more}
use Rattle.jsonb.proofs.path.display.write_hex.Goals as goal

pub loop-byte-init : goal.loop-byte-init
unfolding encode_with
loop-byte-init g c = search rules

pub loop-byte-preserved : goal.loop-byte-preserved
loop-byte-preserved g c plain =
    let had = c.loop-byte.invariant plain in
    has_written_of_eq _ _ _ _ _ (encode_lower-take_more c.args.bytes.now c.loop-byte.byte-index 0 (omega arith))
    (has_written_append _ _ _ _ _ _ had (c.in_ok-write_hex_byte.ensures had.plain refl))
