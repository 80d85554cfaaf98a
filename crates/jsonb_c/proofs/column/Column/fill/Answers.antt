use Rattle.std.proofs.Common.{◌<◌, length, arith}
use Rattle.jsonb_c.proofs.Rows.{filled_more}
use Rattle.jsonb_c.proofs.column.Column.fill.Goals as goal

pub loop-index-preserved : goal.loop-index-preserved
loop-index-preserved g c =
    let in_values : c.loop-index.index < length c.args.values.now = omega arith in
    let in_statuses : c.loop-index.index < length c.args.statuses.now = omega arith in
    rw (c.cell_value.ensures, c.cell_status.ensures)
    (filled_more _ _ _ _ _ c.loop-index.index _ c.ask-cell.result c.row.ensures in_values in_statuses c.loop-index.invariant c.ask-cell.ensures)
