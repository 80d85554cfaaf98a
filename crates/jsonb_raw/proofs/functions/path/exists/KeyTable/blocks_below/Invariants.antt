use Rattle.jsonb_raw.proofs.Lemmas.{◌≤◌, ◌-◌}
use Rattle.jsonb_raw.proofs.functions.path.exists.KeyTable.blocks_below.Given as goal

abbrev pub invariant-loop-low : goal.invariant-loop-low
invariant-loop-low l = l.high ≤ 512

abbrev pub decreases-loop-low : goal.decreases-loop-low
decreases-loop-low l = l.high - l.low
