use Rattle.jsonb_raw.proofs.Lemmas.{arith, refl, zero_passed}
use Rattle.jsonb_raw.proofs.key_bytes.without_zeros.Goals as goal

pub loop-left-preserved : goal.loop-left-preserved
loop-left-preserved c = zero_passed _ c.loop-left.left _ c.loop-left.zeros _ c.loop-left.invariant (omega arith) refl (omega arith)
