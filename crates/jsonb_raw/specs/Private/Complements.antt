-- The bytes of a number, or their complements if it is negative.
use Rattle.std.specs.Prelude.{ℕ, ◌-◌, List, map, Bool, true, false}

abbrev pub complement_byte : Bool → ℕ → ℕ
complement_byte true b = 255 - b
complement_byte false b = b

abbrev pub complement_bytes : Bool → List ℕ → List ℕ
complement_bytes negative bs = map (complement_byte negative) bs
