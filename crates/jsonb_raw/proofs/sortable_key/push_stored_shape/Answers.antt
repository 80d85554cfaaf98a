use Rattle.jsonb_raw.proofs.Lemmas.{arith}
use Rattle.jsonb_raw.proofs.sortable_key.push_stored_shape.Goals as goal

pub returns-in_err-scalar_shape-clause-key : goal.returns-in_err-scalar_shape-clause-key
returns-in_err-scalar_shape-clause-key c = λ form t h scalar.
    absurd (c.in_err-scalar_shape.ensures.shape form t h (grind (arith, h, scalar)))

pub returns-clause-key : goal.returns-clause-key
returns-clause-key c = λ form t h scalar.
    c.push_shape.ensures.key t (c.in_ok-scalar_shape.ensures.shape form t h (grind (arith, h, scalar))) scalar
