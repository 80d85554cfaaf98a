use Rattle.std.proofs.Common.{[]}
use Rattle.jsonb_c.specs.Columns.{DoneRows, AreJoined}
use Rattle.jsonb_c.proofs.column.Column.join.Given as goal

abbrev pub invariant-loop-index : goal.invariant-loop-index
invariant-loop-index g l =
    DoneRows (g.C.RowWriter.Writes l.call) [] l.self l.index
    (λ made. AreJoined made (l.fn.out, l.fn.positions, l.fn.statuses) (l.out, l.positions, l.statuses) l.at)
