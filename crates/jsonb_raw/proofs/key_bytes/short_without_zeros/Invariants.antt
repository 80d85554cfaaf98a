use Rattle.jsonb_raw.proofs.Lemmas.{ZerosPassed}
use Rattle.jsonb_raw.proofs.key_bytes.short_without_zeros.Given as goal

abbrev pub invariant-loop-left : goal.invariant-loop-left
invariant-loop-left l = ZerosPassed l.fn.n l.left l.count 20

abbrev pub decreases-loop-left : goal.decreases-loop-left
decreases-loop-left l = l.left
