use Rattle.std.proofs.Common.{◌<◌, length, arith}
use Rattle.jsonb_c.proofs.Rows.{checked_more}
use Rattle.jsonb_c.proofs.column.Column.check.Goals as goal

pub loop-index-preserved : goal.loop-index-preserved
loop-index-preserved g c =
    let in_statuses : c.loop-index.index < length c.args.statuses.now = omega arith in
    λ other. rw c.cell_status.ensures
    (checked_more _ other _ _ _ c.loop-index.index _ c.ask-cell.result c.row.ensures in_statuses (c.loop-index.invariant other) c.ask-cell.ensures)
