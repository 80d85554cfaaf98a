use Rattle.jsonb_keypath.proofs.Common.{sym, take_while, is_ascii_digit, ParsesUnsigned}
use Rattle.jsonb_keypath.proofs.NumberLemmas.{nat64_read}
use Rattle.jsonb_keypath.proofs.token.number.digits64.Goals as goal

pub returns-in-Ok-clause-value : goal.returns-in-Ok-clause-value
returns-in-Ok-clause-value c =
    let parsed : ParsesUnsigned 64 10 (take_while is_ascii_digit c.args.input.now) c.parse.result = rw (← c.digits_at.ensures.digits) c.parse.ensures.value.0 in
    let read = nat64_read c.args.input.now c.parse.result parsed in
    rw c.digits_at.ensures.rest (sym (rw c.in-Ok.is at read))

pub returns-in-Err-clause-value : goal.returns-in-Err-clause-value
returns-in-Err-clause-value c =
    let parsed : ParsesUnsigned 64 10 (take_while is_ascii_digit c.args.input.now) c.parse.result = rw (← c.digits_at.ensures.digits) c.parse.ensures.value.0 in
    let read = nat64_read c.args.input.now c.parse.result parsed in
    sym (rw c.in-Err.is at read)
