use Rattle.jsonb.proofs.Lemmas.{rules, steps_text-path}
use Rattle.jsonb.proofs.path.display.JsonPathDisplay.fmt.Goals as goal

pub returns-clause-writes : goal.returns-clause-writes
returns-clause-writes c = search (rules, steps_text-path)
