use Rattle.jsonb.proofs.Lemmas.{rules, some_spots, no_spots, array_values, arith, values_of_array, other_values, answered, failed_as, only_memory}
use Rattle.jsonb.proofs.selector.values.item_values.Goals as goal

pub returns-in_err-elements-clause-meant : goal.returns-in_err-elements-clause-meant
returns-in_err-elements-clause-meant c = λ t m. absurd (c.in_err-elements.ensures.meant t m)

pub returns-in_err-push_each-in-Some-clause-meant : goal.returns-in_err-push_each-in-Some-clause-meant
returns-in_err-push_each-in-Some-clause-meant c = λ t m.
    let found = some_spots c.args.bytes.now c.in-Some.elements (array_values t) (rw c.in-Some.is at (c.in_ok-elements.ensures.meant t m)) in
    failed_as c.from_residual-in_err-push_each-in-Some.ensures.1 (only_memory (c.in_err-push_each-in-Some.ensures.meant found.0 found.2))

pub returns-in_ok-push_each-in-Some-clause-meant : goal.returns-in_ok-push_each-in-Some-clause-meant
returns-in_ok-push_each-in-Some-clause-meant c = λ t m.
    let found = some_spots c.args.bytes.now c.in-Some.elements (array_values t) (rw c.in-Some.is at (c.in_ok-elements.ensures.meant t m)) in
    grind (arith, values_of_array, c.in_ok-push_each-in-Some.ensures.meant, c.new-values.ensures.items)

pub returns-in_err-stored-in-None-clause-meant : goal.returns-in_err-stored-in-None-clause-meant
returns-in_err-stored-in-None-clause-meant c = λ t m. absurd (c.in_err-stored-in-None.ensures.value t m)

pub returns-in_ok-stored-in-None-clause-meant : goal.returns-in_ok-stored-in-None-clause-meant
returns-in_ok-stored-in-None-clause-meant c = search (rules, no_spots, answered, other_values)
