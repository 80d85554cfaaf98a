use Rattle.jsonb_doc.proofs.Lemmas.{whole_done}
use Rattle.jsonb_doc.proofs.rewriting.Writer.finish.Goals as goal

pub returns-clause-written : goal.returns-clause-written
returns-clause-written c = λ form whole w. whole_done form _ _ w.before w.t whole w.is_open w.are_around
