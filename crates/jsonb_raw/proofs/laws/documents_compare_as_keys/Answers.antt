use Rattle.jsonb_raw.proofs.Lemmas.{arith, decoded_key, keys_order}
use Rattle.jsonb_raw.proofs.laws.documents_compare_as_keys.Goals as goal

pub returns : goal.returns
returns c = λ form other_form t u w d e none none' deep deep'.
    keys_order w t u (decoded_key w form _ t (λ i. omega (arith, c.type_inv.document i)) d none deep)
    (decoded_key w other_form _ u (λ i. omega (arith, c.type_inv.other i)) e none' deep')
