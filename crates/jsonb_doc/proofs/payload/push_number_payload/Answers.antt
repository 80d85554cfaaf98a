use Rattle.jsonb_doc.proofs.Lemmas.{◌≡◌, ℕ, zero, suc, ◌++◌, [], ◌∷◌, refl, ℤ, pos, negsuc, rules, w128, cast_unsigned, decimal128, number_from, fixed_bytes, number_payload, number_view}
use Rattle.jsonb_doc.proofs.payload.push_number_payload.Goals as goal

not_zero : (z : ℤ) (scale : ℕ) → (cast_unsigned w128 z ≡ 0 → ⊥)
    → number_payload (number_from decimal128 z scale) ≡ 0x70 ∷ fixed_bytes w128 z ++ scale ∷ []
not_zero (pos zero) scale some = absurd (some refl)
not_zero (pos (suc n)) scale some = refl
not_zero (negsuc n) scale some = refl

pub returns-in-Decimal128-clause-pushed : goal.returns-in-Decimal128-clause-pushed
returns-in-Decimal128-clause-pushed c =
    let value = c.in-Decimal128.decimal.value in
    let bytes : c.to_be_bytes-in-Decimal128.result ≡ fixed_bytes w128 value = search rules in
    let shape = not_zero value c.in-Decimal128.decimal.scale in
    let whole : c.whole.result ≡ value = rw c.in-Decimal128.is at c.whole.ensures in
    let view : number_view c.args.number ≡ number_from decimal128 value c.in-Decimal128.decimal.scale = rw c.in-Decimal128.is refl in
    rw (view, shape (rw whole at c.if-whole-eq0.false)) (rw bytes at c.push_decimal-in-Decimal128.ensures.pushed)
