use Rattle.jsonb_raw.proofs.Lemmas.{none_seen_yet}
use Rattle.jsonb_raw.proofs.functions.path.name_block.few_decide.Goals as goal

pub returns-clause-has : goal.returns-clause-has
returns-clause-has c = λ form ss h. c.each_decides.ensures.has form ss h (none_seen_yet ss c.args.names.now 8 c.requires)
