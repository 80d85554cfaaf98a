use Rattle.jsonb_doc.proofs.Lemmas.{Decodes-object, Holds-skipped}
use Rattle.jsonb_doc.proofs.nesting.split_parts.Goals as goal

pub returns-in-Err-clause-parts : goal.returns-in-Err-clause-parts
returns-in-Err-clause-parts c = λ form t h.
    let p = c.in-Object.parts in
    absurd (Holds-skipped form p c.in-Err.ensures.contents t (Decodes-object form c.args.bytes.now p (rw c.in-Object.is at c.in-Ok.ensures.cut) t h))
