use Rattle.jsonb_raw.proofs.Lemmas.{position_is}
use Rattle.jsonb_raw.proofs.functions.runs.name_position.Goals as goal

pub returns-clause-position : goal.returns-clause-position
returns-clause-position c = λ form ks h are. position_is _ ks c.find_key.result (c.find_key.ensures.position form ks h are)
