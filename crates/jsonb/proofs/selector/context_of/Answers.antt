use Rattle.jsonb.proofs.Lemmas.{sym, decodes_any}
use Rattle.jsonb.proofs.selector.context_of.Goals as goal

pub returns-in_err-spot-clause-meant : goal.returns-in_err-spot-clause-meant
returns-in_err-spot-clause-meant c = λ form top d.
    absurd (c.in_err-spot.ensures.marks top (decodes_any form c.as_bytes-bytes.result.now top (rw (sym c.as_bytes-bytes.ensures) at d)))

pub returns-clause-meant : goal.returns-clause-meant
returns-clause-meant c = λ form top d.
    (c.as_bytes-bytes.ensures, c.in_ok-spot.ensures.marks top (decodes_any form c.as_bytes-bytes.result.now top (rw (sym c.as_bytes-bytes.ensures) at d)))
