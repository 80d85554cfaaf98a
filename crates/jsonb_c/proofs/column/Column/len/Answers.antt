use Rattle.std.proofs.Common.{◌∙◌, sym}
use Rattle.jsonb_c.proofs.Rows.{count_is}
use Rattle.jsonb_c.proofs.column.Column.len.Goals as goal

pub returns : goal.returns
returns c = c.saturating_sub.ensures ∙ sym (count_is _ _ _ c.self.view_is)
