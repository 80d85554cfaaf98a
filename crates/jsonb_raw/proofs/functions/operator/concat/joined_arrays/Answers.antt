use Rattle.jsonb_raw.proofs.Lemmas.{as_elements, failed, refused_back}
use Rattle.jsonb_raw.proofs.functions.operator.concat.joined_arrays.Goals as goal

pub returns-in_err-second-clause-document : goal.returns-in_err-second-clause-document
returns-in_err-second-clause-document c = λ form t u d e.
    failed _ _ _ c.from_residual-in_err-second.ensures.1 (refused_back form (as_elements t) u _ (c.in_err-second.ensures.elements form u e))
