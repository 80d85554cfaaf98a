use Rattle.jsonb.proofs.Lemmas.{rules, sym, Any, IsTooLarge, err_is, handed_by, handed_error}
use Rattle.jsonb.proofs.selector.Selector.select_values.Goals as goal

pub returns-in_err-document-clause-values : goal.returns-in_err-document-clause-values
returns-in_err-document-clause-values c = search (rules, handed_error, Any, err_is)

pub returns-clause-values : goal.returns-clause-values
returns-clause-values c = λ form top outcome d m.
    handed_by (Any (IsTooLarge form)) (c.in_ok-document.ensures.meant form top outcome d m)
    (λ ts h. c.documents.ensures.documents form top ts (rw (sym h.0) at d) h.1)
