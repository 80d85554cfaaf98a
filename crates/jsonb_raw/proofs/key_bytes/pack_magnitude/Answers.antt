use Rattle.jsonb_raw.proofs.Lemmas.{◌+◌, ◌-◌, ◌∷◌, [], ap, ap₂, ◌∙◌, arith, packed_bytes, magnitude_packed}
use Rattle.jsonb_raw.proofs.key_bytes.pack_magnitude.Goals as goal

pub returns-clause-bytes : goal.returns-clause-bytes
returns-clause-bytes c =
    let exponent = c.pack_digits-digits.result.len - 1 + c.short_without_zeros-shorter.result.1 + 1000 - c.from.result in
    c.prepend-3.ensures.bytes
    ∙ ap (λ xs. c.args.sign ∷ xs)
    (c.prepend-2.ensures.bytes ∙ ap (λ xs. c.complement_byte-2.result ∷ xs) c.prepend.ensures.bytes
    ∙ magnitude_packed c.args.negative (c.complement_byte-2.result ∷ c.complement_byte.result ∷ []) (packed_bytes c.pack_digits-digits.result) c.args.n
    c.short_without_zeros-shorter.result.0 c.args.scale exponent
    (omega (arith, c.short_without_zeros-shorter.ensures.zeros, c.pack_digits-digits.ensures.len, c.from.ensures))
    c.short_without_zeros-shorter.ensures.digits
    (ap₂ (λ high low. high ∷ low ∷ []) (rw c.to_be_bytes.ensures at c.complement_byte-2.ensures) (rw c.to_be_bytes.ensures at c.complement_byte.ensures))
    c.pack_digits-digits.ensures.bytes)
