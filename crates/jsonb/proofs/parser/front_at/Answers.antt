use Rattle.jsonb.proofs.Lemmas.{rules, opening_outcome, arith, front-is, front-operation, front-steps}
use Rattle.jsonb.proofs.parser.front_at.Goals as goal

pub returns-in_default : goal.returns-in_default
returns-in_default c = search (rules, front-is)

pub returns-in_default-2 : goal.returns-in_default-2
returns-in_default-2 c = search (rules, front-steps)

pub returns : goal.returns
unfolding opening_outcome
returns c = grind (arith, front-operation)
