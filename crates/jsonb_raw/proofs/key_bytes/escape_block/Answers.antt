use Rattle.jsonb_raw.proofs.Lemmas.{length, length-drop, arith, ap, front_escaped}
use Rattle.jsonb_raw.proofs.key_bytes.escape_block.Goals as goal

pub loop-piece-preserved : goal.loop-piece-preserved
loop-piece-preserved c =
    let inv = c.loop-piece.invariant in
    let step = c.write_piece-end.ensures in
    let front = c.in-Some.ensures.cases in
    let back = c.split_at.ensures.back in
    record {
      room = grind (arith, length-drop, inv.room, step.within, step.few, front.2, (ap length back));
      size = omega (arith, inv.size, step.size);
      whole = front_escaped _ _ _ _ _ _ _ _ _ front.0 back step.few step.bytes inv.whole;
    }
