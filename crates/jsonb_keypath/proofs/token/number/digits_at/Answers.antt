use Rattle.jsonb_keypath.proofs.Common.{◌≡◌, arith, take_while, is_ascii_digit, prefix_len-le-length}
use Rattle.jsonb_keypath.proofs.NumberLemmas.{digits_are_utf8}
use Rattle.jsonb_keypath.proofs.token.number.digits_at.Goals as goal

pub split_at-requires : goal.split_at-requires
split_at-requires c = omega (arith, c.digit_count.ensures, prefix_len-le-length is_ascii_digit c.args.input.now)

pub unreachable-requires : goal.unreachable-requires
unreachable-requires c =
    let front : c.split_at.result.0.now ≡ take_while is_ascii_digit c.args.input.now = rw (← c.digit_count.ensures) c.split_at.ensures.front in
    c.in-Err.ensures.cases.0 (rw front (digits_are_utf8 c.args.input.now))
