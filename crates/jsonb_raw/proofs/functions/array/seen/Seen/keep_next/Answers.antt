use Rattle.jsonb_raw.proofs.Lemmas.{◌∷◌, subst, HaveSeen}
use Rattle.jsonb_raw.proofs.functions.array.seen.Seen.keep_next.Goals as goal

pub returns-in-Keys-clause-passed : goal.returns-in-Keys-clause-passed
returns-in-Keys-clause-passed c = λ form other before rest t h s.
    c.keep_by_key.ensures.passed form other before rest t (subst (λ x. HaveSeen form c.args.kind x other before (t ∷ rest)) c.in-Keys.is h) s
