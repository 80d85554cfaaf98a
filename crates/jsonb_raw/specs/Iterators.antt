-- Iterators that callers pass.
use Rattle.std.specs.Prelude.{List, Option}
use Rattle.std.specs.Borrow.{Bor}
use Rattle.std.specs.Iterator.{YieldsFirstRef}

-- Holds if in each state the iterator yields the first item of the list that is left, as a reference, and leaves the
-- others.
abbrev pub YieldsItemsLeft : {I A : Type 0} → (I → Option (Bor A) → I → Type 0) → (I → List A) → Type 0
YieldsItemsLeft {I} {A} next left = (s : I) (r : Option (Bor A)) (t : I) → next s r t → YieldsFirstRef left s r t
