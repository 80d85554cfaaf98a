use Rattle.jsonb_raw.proofs.Lemmas.{arith, names_told, names_ended, names_open}
use Rattle.jsonb_raw.proofs.functions.path.exists_blocks.block_by.Goals as goal
use Rattle.jsonb_raw.proofs.functions.path.exists_blocks.block_by.Goals.{then-decided-found-via-then-decided-found, then-decided-found-via-else-decided-found+then-count-names}

pub returns-in_err-decided-clause-has : goal.returns-in_err-decided-clause-has
returns-in_err-decided-clause-has g c = λ left tells form ss h. absurd (c.in_err-decided.ensures.has form ss h)

pub returns-then-decided-found-clause-has : goal.returns-then-decided-found-clause-has
returns-then-decided-found-clause-has g c = λ left tells form ss h.
    let told = c.in_ok-decided.ensures.has form ss h in
    let all = c.take_names-count.ensures.names left tells in
    elim c.then-decided-found.branch [
      | then-decided-found-via-then-decided-found w ↦ names_told ss _ _ _ c.args.found _ told all w.if-decided-found.true
      | then-decided-found-via-else-decided-found+then-count-names w ↦
          names_ended ss _ _ _ c.args.found _ told all (c.take_names-count.ensures.last (omega (arith, w.if-count-names.true, c.take_names-count.ensures.length)) left tells)
    ]

pub returns-clause-has : goal.returns-clause-has
returns-clause-has g c = λ left tells form ss h.
    names_open ss _ _ _ c.args.found _ (c.in_ok-decided.ensures.has form ss h) (c.take_names-count.ensures.names left tells) c.if-decided-found.false
