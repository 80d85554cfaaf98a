use Rattle.jsonb.proofs.Lemmas.{rules, Ok, ap, some_spots, no_spots, array_values, values_of_array, other_values, same_outcome}
use Rattle.jsonb.proofs.selector.values.push_values.Goals as goal

pub returns-in_err-elements-clause-meant : goal.returns-in_err-elements-clause-meant
returns-in_err-elements-clause-meant c = λ t m. absurd (c.in_err-elements.ensures.meant t m)

pub returns-in-Some-clause-meant : goal.returns-in-Some-clause-meant
returns-in-Some-clause-meant c = λ t m.
    let found = some_spots c.args.bytes.now c.in-Some.elements (array_values t) (rw c.in-Some.is at (c.in_ok-elements.ensures.meant t m)) in
    same_outcome (ap Ok (values_of_array t found.0 found.1)) (c.push_each.ensures.meant found.0 found.2)

pub returns-in_err-spot_value-in-None-clause-meant : goal.returns-in_err-spot_value-in-None-clause-meant
returns-in_err-spot_value-in-None-clause-meant c = λ t m. absurd (c.in_err-spot_value-in-None.ensures.value t m)

pub returns-in_ok-spot_value-in-None-clause-meant : goal.returns-in_ok-spot_value-in-None-clause-meant
returns-in_ok-spot_value-in-None-clause-meant c = search (rules, no_spots, same_outcome, other_values)
