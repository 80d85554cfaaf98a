use Rattle.jsonb_raw.proofs.Common.{◌∙◌}
use Rattle.jsonb_raw.proofs.functions.operator.starts.put_hashes.Goals as goal

pub loop-entry-preserved-then-not-is_container : goal.loop-entry-preserved-then-not-is_container
loop-entry-preserved-then-not-is_container c = record {
  hints = λ all h. c.put_hash.ensures.hints all (c.loop-entry.invariant.hints all h);
  length = c.put_hash.ensures.length ∙ c.loop-entry.invariant.length;
}
