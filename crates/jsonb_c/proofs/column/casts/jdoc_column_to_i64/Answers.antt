use Rattle.jsonb_c.proofs.column.casts.jdoc_column_to_i64.Goals as goal

pub returns : goal.returns
returns c = rw c.new.ensures at c.fill.ensures
