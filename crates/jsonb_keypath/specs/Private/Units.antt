-- The units of tokens, as the code has them.
use Rattle.std.specs.Prelude.{ℕ, Bool, List, [], ◌∷◌, encode_utf8}
use Rattle.jsonb_keypath.specs.declared.token.text.Ending.{Ending}
use Rattle.jsonb_keypath.specs.declared.token.text.Ending.TheVariants.{Stop, Quote}
use Rattle.jsonb_keypath.specs.declared.token.text.Unit.{Unit as TextUnit}
use Rattle.jsonb_keypath.specs.declared.token.text.Unit.TheVariants.{Byte, Escape}
use Rattle.jsonb_keypath.specs.Rules.{Rule, ◌>>=◌, ◌>>◌, give, literal}
use Rattle.jsonb_keypath.specs.Tokens.{is_stop, is_quote, text}

-- the bytes that may not occur in the token
abbrev pub excluded : Ending → ℕ → Bool
excluded Stop = is_stop
excluded Quote = is_quote

-- the bytes that the unit stands for
abbrev pub unit_bytes : TextUnit → List ℕ
unit_bytes (Byte b) = b ∷ []
unit_bytes (Escape c) = encode_utf8 c

-- units and the quote after them
abbrev pub closed : Rule (List ℕ)
closed = do found ← text is_quote; literal "\""; give found
