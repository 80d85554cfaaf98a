-- Bytes that are written before a position of a buffer.
use Rattle.std.specs.Prelude.{◌≡◌, ◌++◌, ℕ, List, length, drop}

-- from `place` on the buffer has the bytes, and then what stood from `end` on; it is as long as before
abbrev pub WritesBefore : List ℕ → ℕ → List ℕ → ℕ → List ℕ → Type 0
WritesBefore buffer end bytes place now = (drop place now ≡ bytes ++ drop end buffer) × (length now ≡ length buffer)
