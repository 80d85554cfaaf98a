use Rattle.jsonb_c.proofs.Rows.{CheckedRows}
use Rattle.jsonb_c.proofs.column.Column.check.Given as goal

abbrev pub invariant-loop-index : goal.invariant-loop-index
invariant-loop-index g l = CheckedRows (g.C.RowCall.Writes l.call) l.self l.index l.initial.statuses l.statuses
