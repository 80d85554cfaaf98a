use Rattle.jsonb_doc.proofs.Lemmas.{object, number_reader, Decodes-object, only_object}
use Rattle.jsonb_doc.proofs.entry_iter.object_entries.Goals as goal

pub returns-in_err-parts-clause-decodes : goal.returns-in_err-parts-clause-decodes
returns-in_err-parts-clause-decodes c = λ form ps h.
    absurd (c.in_err-parts.ensures.cut.1 (number_reader form) (object ps) h.document)

pub returns-in-Object-clause-decodes : goal.returns-in-Object-clause-decodes
returns-in-Object-clause-decodes c = λ form ps h.
    c.entries.ensures.entries form ps (Decodes-object form _ _ (rw c.in-Object.is at c.in_ok-parts.ensures.cut) (object ps) h)

pub returns-in-Object-clause-refused : goal.returns-in-Object-clause-refused
returns-in-Object-clause-refused c = λ form t h other.
    absurd (only_object form c.args.bytes.now c.in-Object.parts (rw c.in-Object.is at c.in_ok-parts.ensures.cut) t h other)
