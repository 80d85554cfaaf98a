use Rattle.jsonb_raw.proofs.Lemmas.{packed_bytes, DigitsPacked}
use Rattle.jsonb_raw.proofs.key_bytes.pack_digits.Given as goal

abbrev pub invariant-loop-left : goal.invariant-loop-left
invariant-loop-left l = DigitsPacked l.fn.negative l.fn.n l.left l.packed.len (packed_bytes l.packed)

abbrev pub decreases-loop-left : goal.decreases-loop-left
decreases-loop-left l = l.left
