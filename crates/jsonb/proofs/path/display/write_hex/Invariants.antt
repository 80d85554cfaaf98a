use Rattle.jsonb.proofs.Lemmas.{take, HasWritten, IsPlainFormatter, encode_lower}
use Rattle.jsonb.proofs.path.display.write_hex.Given as goal

-- the bytes before the index are written
abbrev pub invariant-loop-byte : goal.invariant-loop-byte
invariant-loop-byte g l =
    IsPlainFormatter l.initial.f → HasWritten g.W.Write.write_str_gives l.initial.f (encode_lower (take l.byte-index l.bytes)) l.f
