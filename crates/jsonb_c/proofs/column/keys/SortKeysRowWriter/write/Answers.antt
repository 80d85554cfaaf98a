use Rattle.jsonb_c.specs.Calls.{width_of}
use Rattle.jsonb_c.specs.Private.Views.{IsSortableKeyOf}
use Rattle.jsonb_c.proofs.KeyRows.{writes_key}
use Rattle.jsonb_c.proofs.column.keys.SortKeysRowWriter.write.Goals as goal

pub returns : goal.returns
returns c = λ old new status shown.
    writes_key c.write_sort_key.result c.write_sort_key.new.key (IsSortableKeyOf (width_of c.args.self.now.wide) c.args.document.now) _ old new status
    c.write_sort_key.ensures.key c.write_sort_key.ensures.errors (rw c.and.ensures at shown)
