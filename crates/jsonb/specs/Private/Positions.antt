-- The positions of an array between two numbers.
use Rattle.std.specs.Prelude.{ℕ, ◌<◌, ℤ, pos, ◌≤ℤ◌}

-- a position of an array of this length that lies between two numbers, both included
abbrev pub IsBetween : ℤ → ℤ → ℕ → ℕ → Type 0
IsBetween first last length k = (k < length) × (first ≤ℤ pos k) × (pos k ≤ℤ last)
