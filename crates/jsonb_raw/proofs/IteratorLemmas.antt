-- Iterators of std determine what is left in them.
use Rattle.jsonb_raw.proofs.Common.{arith, iter_rest, iter_steps, YieldsItemsLeft, empty_of}

-- `iter()` of a slice or a `Vec`
pub iter_tells : {A : Type 0} → YieldsItemsLeft (iter_steps {A = A}) iter_rest
iter_tells = grind (arith, empty_of)
