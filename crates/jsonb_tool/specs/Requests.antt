-- The requests of command lines.
use Rattle.std.specs.Prelude.{ℕ, List, [], ◌∷◌, Option, None, option_map, codes, if◌then◌else◌}
use Rattle.std.specs.Result.{result_ok}
use Rattle.std.specs.Str.{bytes_eq}
use Rattle.hex.specs.Hex.{decode_of}

-- A command. Its path is the text that was given, its document the bytes.
pub data Request : Type 0 where
  get : List ℕ → List ℕ → Request
  key : List ℕ → Request
  leaves : List ℕ → Request
  select : List ℕ → List ℕ → Request
  path_match : List ℕ → List ℕ → Request

-- The bytes of hexadecimal digits in either case, if the text is that.
abbrev pub bytes_of : List ℕ → Option (List ℕ)
bytes_of digits = result_ok (decode_of digits)

-- The request of the arguments: a command by its name, with as many arguments as it takes, and hexadecimal for its
-- document. Other arguments are not a request.
abbrev pub request_of : List (List ℕ) → Option Request
request_of (name ∷ path ∷ digits ∷ []) = if bytes_eq name (codes "get") then option_map (get path) (bytes_of digits)
    else if bytes_eq name (codes "select") then option_map (select path) (bytes_of digits)
    else if bytes_eq name (codes "match") then option_map (path_match path) (bytes_of digits) else None
request_of (name ∷ digits ∷ []) = if bytes_eq name (codes "key") then option_map key (bytes_of digits)
    else (if bytes_eq name (codes "leaves") then option_map leaves (bytes_of digits) else None)
request_of _ = None
