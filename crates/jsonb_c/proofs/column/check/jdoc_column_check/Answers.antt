use Rattle.jsonb_c.proofs.column.check.jdoc_column_check.Goals as goal

pub returns : goal.returns
returns c = rw c.new.ensures at (c.check.ensures (tt {0}))
