use Rattle.jsonb_raw.proofs.Lemmas.{DigitsWritten}
use Rattle.jsonb_raw.proofs.key_bytes.write_digits.Given as goal

abbrev pub invariant-loop-long : goal.invariant-loop-long
invariant-loop-long l = DigitsWritten l.fn.negative l.fn.n l.fn.end l.fn.buffer l.long l.first l.buffer

abbrev pub decreases-loop-long : goal.decreases-loop-long
decreases-loop-long l = l.long

abbrev pub invariant-loop-left : goal.invariant-loop-left
invariant-loop-left l = DigitsWritten l.fn.negative l.fn.n l.fn.end l.fn.buffer l.left l.first l.buffer

abbrev pub decreases-loop-left : goal.decreases-loop-left
decreases-loop-left l = l.left
