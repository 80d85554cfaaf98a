use Rattle.std.proofs.Common.{arith}
use Rattle.jsonb_c.proofs.Rows.{in_offsets, row_at}
use Rattle.jsonb_c.proofs.column.Column.row.Goals as goal

pub bounds-self-inside-index : goal.bounds-self-inside-index
bounds-self-inside-index c = let within = in_offsets _ _ _ _ c.self.view_is c.requires in omega arith

pub bounds-self-inside-index-2 : goal.bounds-self-inside-index-2
bounds-self-inside-index-2 c = in_offsets _ _ _ _ c.self.view_is c.requires

pub offset_bounds-self-inside-index : goal.offset_bounds-self-inside-index
offset_bounds-self-inside-index c = let within = in_offsets _ _ _ _ c.self.view_is c.requires in omega arith

pub offset_bounds-self-inside-index-2 : goal.offset_bounds-self-inside-index-2
offset_bounds-self-inside-index-2 c = let within = in_offsets _ _ _ _ c.self.view_is c.requires in omega arith

pub overflow_add-index : goal.overflow_add-index
overflow_add-index c = let within = in_offsets _ _ _ _ c.self.view_is c.requires in omega arith

pub returns : goal.returns
returns c = rw c.between.ensures (row_at _ _ _ _ c.self.view_is c.requires)
