-- What the code's own types stand for in the grammar.
use Rattle.std.specs.Prelude.{ℕ, ◌<◌, List, length, Option, option_map, IfSome}
use Rattle.std.specs.Borrow.{Bor}
use Rattle.jsonb_keypath.specs.Rules.{Parsed}

-- The outcome of a reader: its value, seen by `view`, and the rest.
abbrev pub read_as : {A B : Type 0} → (A → B) → Option (A × Bor (List ℕ)) → Parsed B
read_as view found = option_map (λ p. (view p.0, p.1.now)) found

-- Holds if the rest of the input is shorter, or the reader found nothing.
abbrev pub ConsumesInput : {A : Type 0} → List ℕ → Option (A × Bor (List ℕ)) → Type 0
ConsumesInput input found = IfSome found (λ p. length p.1.now < length input)
