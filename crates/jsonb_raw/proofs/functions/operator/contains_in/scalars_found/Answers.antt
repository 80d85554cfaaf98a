use Rattle.jsonb_raw.proofs.Lemmas.{elements, elements_fit, elements_few}
use Rattle.jsonb_raw.proofs.functions.operator.contains_in.scalars_found.Goals as goal

pub returns-clause-matched : goal.returns-clause-matched
returns-clause-matched c = λ form other_form xs ys h k f g.
    c.scalars_in_table.ensures.matched other_form (elements xs) ys (c.in_ok-table.ensures.keys form xs h (elements_fit xs f) (elements_few xs f)) k g
