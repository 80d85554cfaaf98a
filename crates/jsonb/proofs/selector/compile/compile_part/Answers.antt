use Rattle.jsonb.proofs.Lemmas.{arith, none_waiting, as_many, left_waits, popped}
use Rattle.jsonb.proofs.selector.compile.compile_part.Goals as goal

pub returns-in_default-clause-tests : goal.returns-in_default-clause-tests
returns-in_default-clause-tests c = λ done a. grind (arith, as_many, popped, none_waiting)

pub returns-then-is_joined-clause-tests : goal.returns-then-is_joined-clause-tests
returns-then-is_joined-clause-tests c = λ done a. grind (arith, as_many, left_waits)

pub returns-clause-tests : goal.returns-clause-tests
returns-clause-tests c = λ done a. grind (arith, as_many)
