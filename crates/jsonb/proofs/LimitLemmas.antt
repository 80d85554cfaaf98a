-- The results of calls with a limit.
use Rattle.jsonb.proofs.Common.{Result, Error, UnlessExceeded, lifted, arith}

-- what holds of a result of the selector
pub lifted_keeps : {A : Type 0} (Holds : Result A Error → Type 0) (r : Result A Error) → Holds r → UnlessExceeded Holds (lifted r)
lifted_keeps Holds r holds = grind arith
