-- Integers that arithmetic computes.
use Rattle.std.specs.Prelude.{◌^◌, ◌<◌, ℤ, pos, negsuc}

-- an integer of the variants that are not decimals
abbrev pub FitsInteger : ℤ → Type 0
FitsInteger (pos n) = n < 2 ^ 64
FitsInteger (negsuc n) = n < 2 ^ 63
