use Rattle.jsonb_doc.proofs.Lemmas.{array, number_reader, Decodes-array, IsElementsOf-some, only_array}
use Rattle.jsonb_doc.proofs.reading.array_elements.Goals as goal

pub returns-in_err-parts-clause-decodes : goal.returns-in_err-parts-clause-decodes
returns-in_err-parts-clause-decodes c = λ form ts h.
    absurd (c.in_err-parts.ensures.cut.1 (number_reader form) (array ts) h.document)

pub returns-in-Array-clause-decodes : goal.returns-in-Array-clause-decodes
returns-in-Array-clause-decodes c = λ form ts h.
    let p = c.in-Array.parts in
    let held = Decodes-array form c.args.bytes.now p (rw c.in-Array.is at c.in_ok-parts.ensures.cut) (array ts) h in
    IsElementsOf-some form (array ts) c.new.result p c.new.ensures.words c.new.ensures.contents held

pub returns-in-Array-clause-refused : goal.returns-in-Array-clause-refused
returns-in-Array-clause-refused c = λ form t h other.
    absurd (only_array form c.args.bytes.now c.in-Array.parts (rw c.in-Array.is at c.in_ok-parts.ensures.cut) t h other)
