use Rattle.jsonb_raw.proofs.Lemmas.{◌≡◌, take, true, nat_lt, list_all}
use Rattle.jsonb_raw.proofs.key_bytes.plain_len.Given as goal

-- so far
abbrev pub invariant-loop-at : goal.invariant-loop-at
invariant-loop-at l = list_all (λ b. nat_lt 1 b) (take l.at l.piece) ≡ true
