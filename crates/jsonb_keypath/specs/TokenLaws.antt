-- What repeated rules and tokens read, stated without a loop.
use Rattle.std.specs.Prelude.{◌≡◌, ℕ, ◌<◌, Bool, true, List, [], ◌∷◌, length, Some}
use Rattle.std.specs.List.{concat}
use Rattle.std.specs.Str.{is_utf8}
use Rattle.jsonb_keypath.specs.Rules.{Rule}
use Rattle.jsonb_keypath.specs.Tokens.{unit}

-- Holds if the rule reads at least one byte whenever it succeeds.
abbrev pub ReadsSome : {A : Type 0} → Rule A → Type 0
ReadsSome {A} rule = (input : List ℕ) (a : A) (rest : List ℕ) → rule input ≡ Some (a, rest) → length rest < length input

-- Holds if the input is what the rule reads as these values, one after the other, and then the rest.
abbrev pub IsRun : {A : Type 0} → Rule A → List ℕ → List A → List ℕ → Type 0
IsRun rule input [] rest = input ≡ rest
IsRun rule input (a ∷ values) rest = (middle : List ℕ) × (rule input ≡ Some (a, middle)) × IsRun rule middle values rest

-- Holds if the input is one or more units, which denote this UTF-8 text, and then the rest.
abbrev pub IsText : (ℕ → Bool) → List ℕ → List ℕ → List ℕ → Type 0
IsText is_excluded input text rest =
    (texts : List (List ℕ)) × (0 < length texts) × IsRun (unit is_excluded) input texts rest
    × (concat texts ≡ text) × (is_utf8 text ≡ true)
