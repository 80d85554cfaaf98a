use Rattle.jsonb.proofs.Lemmas.{rules, sym, IsTooLarge, array_of, err_is, handed_by, handed_error, array_handed}
use Rattle.jsonb.proofs.selector.Selector.select_array.Goals as goal

pub returns-in_err-document-clause-array : goal.returns-in_err-document-clause-array
returns-in_err-document-clause-array c = search (rules, handed_error, array_of, err_is)

pub returns-clause-array : goal.returns-clause-array
returns-clause-array c = λ form top outcome d m.
    handed_by (λ ts. IsTooLarge form (array_of ts)) (c.in_ok-document.ensures.meant form top outcome d m)
    (λ ts h. array_handed form ts c.array_document.result (c.array_document.ensures.document form top ts (rw (sym h.0) at d) h.1))
