-- Bytes, as a list of numbers.
use Rattle.std.specs.Prelude.{ℕ, ◌<◌, List, slice_index}

-- Holds if each of the numbers is a byte. A position past the end counts as 0.
abbrev pub AreBytes : List ℕ → Type 0
AreBytes bytes = (i : ℕ) → slice_index bytes i < 256
