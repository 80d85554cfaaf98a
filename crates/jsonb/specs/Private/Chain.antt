-- A chain of expressions: pairs whose left side is a pair again.
use Rattle.std.specs.Prelude.{ℕ, zero, suc, Bool, true, false}
use Rattle.jsonb.specs.PathTree.{Expression, binary}

abbrev pub is_pair : Expression → Bool
is_pair (binary op left right) = true
is_pair _ = false

-- the left side of a pair, or any other expression itself
abbrev pub left_of : Expression → Expression
left_of (binary op left right) = left
left_of e = e

-- the expression n left sides below
abbrev pub below : ℕ → Expression → Expression
below zero e = e
below (suc n) e = below n (left_of e)
