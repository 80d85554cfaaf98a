-- An iterator of copies determines what is left in it if the iterator below does.
use Rattle.jsonb_raw.proofs.Common.{arith, List, map, Option, Bor, copied_steps, copied_source, YieldsItemsLeft}

-- `copied()` of an iterator over references
pub copied_tells : {S A : Type 0} (steps : S → Option (Bor (Bor A)) → S → Type 0) (left : S → List (Bor A)) → YieldsItemsLeft steps left
    → YieldsItemsLeft (copied_steps steps) (λ s. map (λ x. x.now) (left (copied_source s)))
copied_tells steps left h = grind arith
