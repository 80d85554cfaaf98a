use Rattle.jsonb_raw.proofs.Lemmas.{values}
use Rattle.jsonb_raw.proofs.functions.array.hashes.object_hash.Goals as goal

pub returns-in-Ok : goal.returns-in-Ok
returns-in-Ok c = λ form ps d. c.entries_hash.ensures form (values ps) (c.in-Ok.ensures.decodes form ps d).parts
