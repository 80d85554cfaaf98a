use Rattle.jsonb_raw.proofs.Lemmas.{failed}
use Rattle.jsonb_raw.proofs.functions.parts.PairRuns.push_run.Goals as goal

pub returns-in_err-push_run-clause-pushed : goal.returns-in_err-push_run-clause-pushed
returns-in_err-push_run-clause-pushed c = λ form xs ys h.
    failed _ _ _ c.from_residual.ensures.1 (c.in_err-push_run.ensures.pushed form _ _ h.names)

pub returns-in_err-push_run-2-clause-pushed : goal.returns-in_err-push_run-2-clause-pushed
returns-in_err-push_run-2-clause-pushed c = λ form xs ys h.
    failed _ _ _ c.from_residual-in_err-push_run-2.ensures.1 (c.in_err-push_run-2.ensures.pushed form _ _ h.parts)

pub returns-clause-pushed : goal.returns-clause-pushed
returns-clause-pushed c = λ form xs ys h. search (c.in_ok-push_run.ensures.pushed, c.in_ok-push_run-2.ensures.pushed)
