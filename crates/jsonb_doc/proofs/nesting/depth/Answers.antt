use Rattle.jsonb_doc.proofs.Lemmas.{false≢true, in_any}
use Rattle.jsonb_doc.proofs.nesting.depth.Goals as goal

pub returns-in_err-check-clause-depth : goal.returns-in_err-check-clause-depth
returns-in_err-check-clause-depth c = λ form t h. absurd (false≢true (c.in_err-check.ensures.ok.1 (t, in_any form t c.args.bytes.now h)))
