use Rattle.jsonb_raw.proofs.Lemmas.{arith}
use Rattle.jsonb_raw.proofs.functions.path.cut.put_others.Goals as goal

pub returns-in_err-keys-clause-put : goal.returns-in_err-keys-clause-put
returns-in_err-keys-clause-put c = grind arith
