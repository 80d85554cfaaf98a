-- Indices of earlier pieces.
use Rattle.std.specs.Prelude.{ℕ, List, filter, nat_lt}

-- the indices below one
abbrev pub earlier : ℕ → List ℕ → List ℕ
earlier n is = filter (λ i. nat_lt i n) is
