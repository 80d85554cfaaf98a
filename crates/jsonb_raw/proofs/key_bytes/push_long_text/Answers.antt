use Rattle.jsonb_raw.proofs.Lemmas.{arith, chunk_escaped, chunk_copied}
use Rattle.jsonb_raw.proofs.key_bytes.push_long_text.Goals as goal

pub loop-left-preserved-in_ok-extend_from_slice : goal.loop-left-preserved-in_ok-extend_from_slice
loop-left-preserved-in_ok-extend_from_slice c =
    let inv = c.loop-left.invariant in
    record {
      whole = chunk_copied _ _ _ _ _ _ _ (c.is_plain_chunk.ensures c.if-is_plain_chunk.true) c.in_ok-extend_from_slice.ensures.items
          c.split_at.ensures.front c.split_at.ensures.back inv.whole;
      len = grind arith;
      capacity = omega (arith, inv.capacity);
    }

pub loop-left-preserved : goal.loop-left-preserved
loop-left-preserved c =
    let inv = c.loop-left.invariant in
    record {
      whole = chunk_escaped _ _ _ _ _ _ _ c.in_ok-push_escaped.ensures.bytes c.split_at.ensures.front c.split_at.ensures.back inv.whole;
      len = grind arith;
      capacity = omega (arith, inv.capacity);
    }
