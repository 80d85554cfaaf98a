use Rattle.jsonb_raw.proofs.Lemmas.{[], ◌∷◌, three_runs}
use Rattle.jsonb_raw.proofs.functions.array.array_with_entry.Goals as goal

pub returns-clause-inserted : goal.returns-clause-inserted
returns-clause-inserted c = λ form ts t held one.
    let k = c.in_ok-front.ensures.split form ts held in
    c.array_of.ensures.array form _ (three_runs form _ _ _ _ (t ∷ []) _ k.0 one k.1)
