use Rattle.jsonb_raw.proofs.Lemmas.{◌≡◌, ◌⊎◌, OnOk, pos, true, false, int_lt, to_z, of_z, refl, inl, inr, subst, w128, arith, ltb-true, append_assoc, positive_pushed}
use Rattle.std.proofs.Common.{to_z-of_z}
use Rattle.jsonb_raw.proofs.key_bytes.push_decimal.Goals as goal
use Rattle.jsonb_raw.proofs.key_bytes.push_decimal.Goals.{then-negative, else-negative}

pub returns-clause-bytes : goal.returns-clause-bytes
returns-clause-bytes c =
    subst (λ xs. OnOk c.push_magnitude.result (c.push_magnitude.new.out.items ≡ xs))
    (grind (arith, pos, positive_pushed, ltb-true, append_assoc, to_z-of_z c.ranges.whole, c.unsigned_abs.ensures.value, refl, signs))
    c.push_magnitude.ensures.bytes
  where
    signs : ((int_lt (to_z w128 (of_z w128 c.args.whole)) (pos 0) ≡ true) × (c.if-negative.sign ≡ 0x7f))
        ⊎ ((int_lt (to_z w128 (of_z w128 c.args.whole)) (pos 0) ≡ false) × (c.if-negative.sign ≡ 0x81))
    signs = elim c.if-negative.branch [ then-negative w ↦ inl (w.if-negative.true, w.sign-is) | else-negative w ↦ inr (w.if-negative.false, w.sign-is) ]
