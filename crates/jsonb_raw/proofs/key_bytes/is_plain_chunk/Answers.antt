use Rattle.jsonb_raw.proofs.Lemmas.{◌≡◌, ◌*◌, ◌/◌, ◌-◌, length, drop, arith, plain_ends}
use Rattle.jsonb_raw.proofs.key_bytes.is_plain_chunk.Goals as goal

pub returns-then-is_plain : goal.returns-then-is_plain
returns-then-is_plain c = λ is.
    let chunk = c.args.chunk.now in
    let back : c.in-Some.last.now ≡ drop (length chunk - 32) chunk = grind arith in
    plain_ends (length chunk / 32 * 32) (length chunk - 32) chunk _ c.in-Some.last.now (omega arith) c.split_at.ensures.front back
    (grind (arith, c.if-is_plain.true)) (grind (arith, is))
