use Rattle.jsonb_c.specs.Private.Views.{IsEqualityKeyOf}
use Rattle.jsonb_c.proofs.KeyRows.{writes_key}
use Rattle.jsonb_c.proofs.column.keys.EqualityKeysRowWriter.write.Goals as goal

pub returns : goal.returns
returns c = λ old new status shown.
    writes_key c.write_equality_key.result c.write_equality_key.new.key (IsEqualityKeyOf c.args.document.now) _ old new status
    c.write_equality_key.ensures.key c.write_equality_key.ensures.errors (rw c.and.ensures at shown)
