use Rattle.jsonb_c.proofs.column.truths.jdoc_column_match.Goals as goal

pub returns : goal.returns
returns c = rw (c.new-asked.ensures.column, c.new-asked.ensures.path) at c.tell.ensures
