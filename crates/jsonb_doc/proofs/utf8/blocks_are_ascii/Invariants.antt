use Rattle.jsonb_doc.proofs.Common.{◌-◌, ◌≤◌, length, take}
use Rattle.std.specs.Prelude.{IsAscii}
use Rattle.jsonb_doc.proofs.utf8.blocks_are_ascii.Given as goal

-- the blocks that were passed are ASCII
abbrev pub invariant-loop-at : goal.invariant-loop-at
invariant-loop-at g l = (l.at ≤ length l.bytes) × IsAscii (take l.at l.bytes)

abbrev pub decreases-loop-at : goal.decreases-loop-at
decreases-loop-at g l = length l.bytes - l.at
