-- The grammar of key paths: which text is one, and its steps.
use Rattle.std.specs.Prelude.{ℕ, List, [], Option, ℤ}
use Rattle.jsonb_keypath.specs.Rules.{Rule, give, ◌>>=◌, ◌>>◌, ◌</>◌, literal, list_of, all_consuming}
use Rattle.jsonb_keypath.specs.Tokens.{ws, int32, name, quoted}

-- A step. A string is its bytes.
pub data Key : Type 0 where
  index : ℤ → Key
  quoted_name : List ℕ → Key
  unquoted_name : List ℕ → Key

-- Parses an index, otherwise a quoted name, otherwise a name.
unfoldable pub key : Rule Key
key =
    (int32 >>= λ i. give (index i))
    </> (quoted >>= λ text. give (quoted_name text))
    </> (name >>= λ text. give (unquoted_name text))

-- Parses a step with white space around it.
unfoldable pub spaced_key : Rule Key
spaced_key = do ws; k ← key; ws; give k

-- Parses one or more steps, separated by commas.
abbrev pub key_list : Rule (List Key)
key_list = list_of spaced_key (literal ",")

-- Parses braces around one or more steps.
unfoldable pub some_keys : Rule (List Key)
some_keys = do ws; literal "{"; keys ← key_list; literal "}"; ws; give keys

-- Parses empty braces.
unfoldable pub no_keys : Rule (List Key)
no_keys = do ws; literal "{"; ws; literal "}"; ws; give []

-- The steps of text that is a key path.
unfoldable pub key_path : List ℕ → Option (List Key)
key_path text = all_consuming ((some_keys </> no_keys) text)
