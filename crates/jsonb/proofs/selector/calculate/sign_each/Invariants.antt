use Rattle.jsonb.proofs.Lemmas.{map, try_flat_map, number_view, signed_number, SignedUntil}
use Rattle.jsonb.proofs.selector.calculate.sign_each.Given as goal

abbrev pub invariant-loop-number : goal.invariant-loop-number
invariant-loop-number l =
    SignedUntil l.op l.numbers l.number-index (try_flat_map (signed_number l.op) (map number_view l.fn.numbers))
