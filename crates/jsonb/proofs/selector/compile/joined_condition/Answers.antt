use Rattle.jsonb.proofs.Lemmas.{arith}
use Rattle.jsonb.proofs.selector.compile.joined_condition.Goals as goal

pub loop-next-init : goal.loop-next-init
loop-next-init c = grind (arith, c.new-tests.ensures.items, c.new-waiting.ensures.items)

pub loop-next-preserved : goal.loop-next-preserved
loop-next-preserved c = grind (arith, c.loop-next.invariant)

pub returns-clause-tests : goal.returns-clause-tests
returns-clause-tests c = grind (arith, c.loop-next.invariant, c.in_default.is)
