use Rattle.jsonb_c.proofs.column.keys.jdoc_column_key.Goals as goal

pub returns : goal.returns
returns c = rw c.new.ensures at c.join.ensures
