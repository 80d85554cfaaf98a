use Rattle.jsonb_c.proofs.column.documents.jdoc_column_delete_by_keypath.Goals as goal

pub returns : goal.returns
returns c = rw (c.new-asked.ensures.column, c.new-asked.ensures.path) at c.place.ensures
