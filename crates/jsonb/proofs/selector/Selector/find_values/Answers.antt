use Rattle.jsonb.proofs.Lemmas.{rules, sym, Any, IsTooLarge, err_is, handed_by, handed_error}
use Rattle.jsonb.proofs.selector.Selector.find_values.Goals as goal

pub returns-in_err-document-clause-items : goal.returns-in_err-document-clause-items
returns-in_err-document-clause-items c = search (rules, handed_error, Any, err_is)

pub returns-clause-items : goal.returns-clause-items
returns-clause-items c = λ form top outcome d m.
    handed_by (Any (IsTooLarge form)) (c.in_ok-document.ensures.meant form top outcome d m)
    (λ ts h. rw h.0 at (c.found_items.ensures.items form top ts (rw (sym h.0) at d) h.1))
