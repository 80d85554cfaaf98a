use Rattle.jsonb_raw.proofs.functions.path.nth_child.Goals as goal

pub returns-in_err-found-clause-child : goal.returns-in_err-found-clause-child
returns-in_err-found-clause-child c = λ t m. absurd (c.in_err-found.ensures.spots t m)
