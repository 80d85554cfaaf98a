-- Words at the ends of bytes.
use Rattle.std.specs.Prelude.{◌≡◌, ℕ, ◌-◌, ◌<◌, ◌≤◌, List, length, take, drop, Option, MatchOption}
use Rattle.std.specs.Int.{Width, from_be_bytes, to_be_bytes}

-- the number and the bytes determine each other
abbrev pub IsWordOf : Width → List ℕ → ℕ → Type 0
IsWordOf w bytes x = (x ≡ from_be_bytes w bytes) × (bytes ≡ to_be_bytes w x)

-- the first n and the last n bytes as numbers, if there are as many
abbrev pub AreEnds : Width → ℕ → List ℕ → Option (ℕ × ℕ) → Type 0
AreEnds w n bytes found = MatchOption found (length bytes < n)
    (λ x. (n ≤ length bytes) × IsWordOf w (take n bytes) x.0 × IsWordOf w (drop (length bytes - n) bytes) x.1)
