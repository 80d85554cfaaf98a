use Rattle.jsonb_raw.proofs.Lemmas.{Decodes-object, pairs_by_parts, no_parts, object_root}
use Rattle.jsonb_doc.specs.declared.shape.Shape.TheVariants as shapes
use Rattle.jsonb_raw.proofs.functions.runs.pair_entries.Goals as goal

pub returns-in_err-entries-clause-entries : goal.returns-in_err-entries-clause-entries
returns-in_err-entries-clause-entries c = λ form t d.
    absurd (no_parts form t c.in-Object.parts
    (Decodes-object form c.args.bytes.now c.in-Object.parts (rw c.in-Object.is at c.in_ok-parts.ensures.cut) t d)
    (c.in_err-entries.ensures.entries form))

pub returns-clause-entries : goal.returns-clause-entries
returns-clause-entries c = λ form t d.
    pairs_by_parts form t c.in-Object.parts _
    (Decodes-object form c.args.bytes.now c.in-Object.parts (rw c.in-Object.is at c.in_ok-parts.ensures.cut) t d)
    (c.in_ok-entries.ensures.entries form)

pub returns-clause-reads : goal.returns-clause-reads
returns-clause-reads c =
    (shapes.Object, object_root c.args.bytes.now c.in-Object.parts (rw c.in-Object.is at c.in_ok-parts.ensures.cut))
