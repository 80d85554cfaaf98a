-- The steps of a key path after the first, each after a comma.
use Rattle.std.specs.Prelude.{ℕ, List, ◌++◌, codes}
use Rattle.jsonb_keypath.specs.Rules.{Rule, ◌>>=◌, ◌>>◌, literal}
use Rattle.jsonb_keypath.specs.KeyPathGrammar.{Key, spaced_key}
use Rattle.jsonb_keypath.specs.KeyPathText.{key_text}

-- parses a comma and the step after it
abbrev pub another_key : Rule Key
another_key = literal "," >> spaced_key

-- the text of a step after another one
abbrev pub other_key_text : Key → List ℕ
other_key_text key = codes "," ++ key_text key
