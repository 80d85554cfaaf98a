use Rattle.jsonb_keypath.proofs.Common.{sym, ◌∙◌}
use Rattle.jsonb_keypath.proofs.NumberLemmas.{no_digit}
use Rattle.jsonb_keypath.proofs.token.number.nat64.Goals as goal

pub returns-then-not-begins_with_digit-clause-value : goal.returns-then-not-begins_with_digit-clause-value
returns-then-not-begins_with_digit-clause-value c =
    sym (no_digit 18446744073709551616 c.args.input.now (sym c.begins_with_digit.ensures ∙ c.if-not-begins_with_digit.true))
