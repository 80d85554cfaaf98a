use Rattle.jsonb_raw.proofs.Lemmas.{◌≡◌, take, list_all, is_plain_ascii, int_lt, pos}
use Rattle.jsonb_raw.proofs.key_bytes.is_plain_ascii.Given as goal

-- so far
abbrev pub invariant-loop-byte : goal.invariant-loop-byte
invariant-loop-byte l = int_lt (pos 1) l.least ≡ list_all is_plain_ascii (take l.byte-index l.bytes)
