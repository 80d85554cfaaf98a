use Rattle.jsonb_c.proofs.column.documents.jdoc_column_select_value.Goals as goal

pub returns : goal.returns
returns c = rw (c.new-asked.ensures.column, c.new-asked.ensures.path) at c.select.ensures
