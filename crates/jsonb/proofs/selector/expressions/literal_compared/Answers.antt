use Rattle.jsonb.proofs.Lemmas.{arith, ◌∷◌, [], values_view, value_view, known, compared_right}
use Rattle.jsonb.proofs.selector.expressions.literal_compared.Goals as goal

pub returns-in-Ok-clause-meant : goal.returns-in-Ok-clause-meant
returns-in-Ok-clause-meant c = λ r h.
    let is = compared_right c.args.op (values_view c.in-Ok.rights) (value_view c.args.left.now ∷ []) r (rw c.in-Ok.is at h).ok in
    grind (arith, is, known, c.compare_one.ensures, c.as_slice.ensures)
