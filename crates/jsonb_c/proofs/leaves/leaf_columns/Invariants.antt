use Rattle.std.proofs.Common.{map, take}
use Rattle.jsonb_c.specs.Private.LeafColumns.{HasLeaves, leaf_row}
use Rattle.jsonb_c.proofs.leaves.leaf_columns.Given as goal

abbrev pub invariant-loop-path : goal.invariant-loop-path
invariant-loop-path l = HasLeaves l.columns (map leaf_row (take l.path-index l.path-items))
