use Rattle.jsonb_keypath.proofs.Common.{flat_map, encode_utf8_all, HasWritten, IsPlainFormatter, quoted_byte}
use Rattle.jsonb_keypath.proofs.token.quoting.write_escaped.Given as goal

-- the characters so far are written
abbrev pub invariant-loop-c : goal.invariant-loop-c
invariant-loop-c g l =
    IsPlainFormatter l.initial.f → HasWritten g.W.Write.write_str_gives l.initial.f (flat_map quoted_byte (encode_utf8_all l.yielded)) l.f
