use Rattle.jsonb.proofs.Lemmas.{[], None, HasSpotsLeft, array_values, picked, listed, none_found}
use Rattle.jsonb.proofs.selector.children.picked_items.Goals as goal

pub returns-in_err-elements-clause-meant : goal.returns-in_err-elements-clause-meant
returns-in_err-elements-clause-meant c = λ t m. absurd (c.in_err-elements.ensures.meant t m)

pub returns-in-Some-clause-meant : goal.returns-in-Some-clause-meant
returns-in-Some-clause-meant c = λ t m.
    listed c.args.mode [] (HasSpotsLeft c.args.bytes.now) (picked c.args.entries.now) c.in-Some.elements (array_values t)
    (rw c.in-Some.is at (c.in_ok-elements.ensures.meant t m))
    (λ us h. c.picked_elements.ensures.meant c.args.bytes.now us h)

pub returns-in-None-clause-meant : goal.returns-in-None-clause-meant
returns-in-None-clause-meant c = λ t m.
    none_found c.args.mode [] (HasSpotsLeft c.args.bytes.now) (picked c.args.entries.now) (array_values t)
    (rw c.in-None.is at (c.in_ok-elements.ensures.meant t m)) (c.items_or.ensures.meant c.args.bytes.now None [] tt tt)
