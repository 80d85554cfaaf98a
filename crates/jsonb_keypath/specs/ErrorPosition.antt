-- The position at which text ceases to be the beginning of a path.
use Rattle.std.specs.Prelude.{ℕ, ◌-◌, List, length, Option, Some, None, is_some, if◌then◌else◌}
use Rattle.std.specs.Option.{option_map_or}
use Rattle.jsonb_keypath.specs.Rules.{Parsed, Rule, give, ◌>>=◌, ◌>>◌, ◌</>◌, literal}
use Rattle.jsonb_keypath.specs.Tokens.{ws, text, is_stop, is_quote}
use Rattle.jsonb_keypath.specs.KeyPathGrammar.{key_list, key_path}

-- Reads what the rule reads, or nothing if it fails.
abbrev pub perhaps : {A : Type 0} → Rule A → Rule (Unit {0})
perhaps rule = (rule >> give tt) </> give tt

-- The input after what was read; all of it after a failure.
abbrev pub rest_after : {A : Type 0} → List ℕ → Parsed A → List ℕ
rest_after input found = option_map_or (λ p. p.1) found input

-- The number of bytes that the front reads, unless the text is accepted.
abbrev pub error_position : {A B : Type 0} → (List ℕ → Option A) → Rule B → List ℕ → Option ℕ
error_position accepted front text =
    if is_some (accepted text) then None else Some (length text - length (rest_after text (front text)))

-- Reads the beginning of a step that is not one: a quote and the string after it, or a name up to a malformed escape.
unfoldable pub key_front : Rule (Unit {0})
key_front = (literal "\"" >> perhaps (text is_quote)) </> perhaps (text is_stop)

-- Reads the closing brace.
unfoldable pub closing_brace : Rule (Unit {0})
closing_brace = literal "}" >> ws

-- Reads what follows the steps: the closing brace, or a comma and the beginning of a step that is not one.
unfoldable pub after_keys : Rule (Unit {0})
after_keys = perhaps (closing_brace </> (literal "," >> ws >> key_front))

-- Reads what follows the opening brace.
unfoldable pub inside_front : Rule (Unit {0})
inside_front = (key_list >> after_keys) </> (ws >> (closing_brace </> key_front))

-- Reads as much of the text as a key path begins with, token by token.
unfoldable pub key_path_front : Rule (Unit {0})
key_path_front = ws >> perhaps (literal "{" >> inside_front)

-- The position of the error in text that is not a key path.
abbrev pub key_path_error_position : List ℕ → Option ℕ
key_path_error_position = error_position key_path key_path_front
