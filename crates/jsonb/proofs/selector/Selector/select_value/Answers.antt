use Rattle.jsonb.proofs.Lemmas.{rules, sym, IsSomeAnd, IsTooLarge, single_or_array, err_is, handed_by, handed_error, option_handed}
use Rattle.jsonb.proofs.selector.Selector.select_value.Goals as goal

pub returns-in_err-document-clause-value : goal.returns-in_err-document-clause-value
returns-in_err-document-clause-value c = search (rules, handed_error, err_is)

pub returns-clause-value : goal.returns-clause-value
returns-clause-value c = λ form top outcome d m.
    handed_by (λ ts. IsSomeAnd (single_or_array ts) (IsTooLarge form)) (c.in_ok-document.ensures.meant form top outcome d m)
    (λ ts h. option_handed form single_or_array ts c.value_document.result
    (c.value_document.ensures.document form top ts (rw (sym h.0) at d) h.1))
