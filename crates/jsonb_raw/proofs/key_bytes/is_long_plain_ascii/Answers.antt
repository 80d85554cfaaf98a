use Rattle.jsonb_raw.proofs.Lemmas.{◌≡◌, ◌*◌, ◌/◌, ◌-◌, length, drop, arith, all_ends, is_plain_ascii}
use Rattle.jsonb_raw.proofs.key_bytes.is_long_plain_ascii.Goals as goal

pub returns-then-is_plain_ascii : goal.returns-then-is_plain_ascii
returns-then-is_plain_ascii c = λ is.
    let text = c.args.text.now in
    let back : c.in-Some.last.now ≡ drop (length text - 32) text = grind arith in
    all_ends (length text / 32 * 32) (length text - 32) text _ c.in-Some.last.now (omega arith) c.split_at.ensures.front back is_plain_ascii
    (grind (arith, c.if-is_plain_ascii.true)) (grind (arith, is))
