use Rattle.jsonb_c.proofs.column.truths.contains.Goals as goal

pub returns-clause-contains : goal.returns-clause-contains
returns-clause-contains c = λ form other_form t u d e. c.contains_in.ensures.answer form other_form t u (rw c.new.ensures d) (rw c.new-2.ensures e)
