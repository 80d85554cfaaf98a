-- The position of a name among keys.
use Rattle.std.specs.Prelude.{ℕ, List, Option, position}
use Rattle.std.specs.Option.{option_or}
use Rattle.std.specs.Str.{bytes_eq, str_eq_ignore_ascii_case}

-- the position of the first key that is the name, or else of the first that is it in some case of ASCII letters
abbrev pub position_in_some_case : List ℕ → List (List ℕ) → Option ℕ
position_in_some_case name ks =
    option_or (position (λ key. bytes_eq key name) ks) (position (λ key. str_eq_ignore_ascii_case key name) ks)
