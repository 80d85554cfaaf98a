use Rattle.jsonb_c.specs.Columns.{DoneRows}
use Rattle.jsonb_c.proofs.Rows.{AreFilled}
use Rattle.jsonb_c.proofs.column.Column.fill.Given as goal

abbrev pub invariant-loop-index : goal.invariant-loop-index
invariant-loop-index g l =
    DoneRows (g.C.RowCall.Writes l.call) l.other l.self l.index (AreFilled (l.initial.values, l.initial.statuses) (l.values, l.statuses))
