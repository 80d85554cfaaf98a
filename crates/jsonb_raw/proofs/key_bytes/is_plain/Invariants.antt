use Rattle.jsonb_raw.proofs.Lemmas.{◌≡◌, take, nat_lt, list_all}
use Rattle.jsonb_raw.proofs.key_bytes.is_plain.Given as goal

-- so far
abbrev pub invariant-loop-byte : goal.invariant-loop-byte
invariant-loop-byte l = nat_lt 1 l.least ≡ list_all (λ b. nat_lt 1 b) (take l.byte-index l.bytes)
