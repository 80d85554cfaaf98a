use Rattle.jsonb_keypath.proofs.Common.{◌≡◌, take, list_all, is_word_byte}
use Rattle.jsonb_keypath.proofs.token.quoting.are_word_bytes.Given as goal

-- the bytes so far
abbrev pub invariant-loop-b : goal.invariant-loop-b
invariant-loop-b l = l.are_words ≡ list_all is_word_byte (take l.b-index l.bytes)
