use Rattle.jsonb.proofs.Lemmas.{rules, some_spots, no_spots, array_values, arith, values_of_array, other_values, same_outcome}
use Rattle.jsonb.proofs.selector.compared_member.other_truth.Goals as goal

pub returns-in_err-elements-clause-meant : goal.returns-in_err-elements-clause-meant
returns-in_err-elements-clause-meant c = λ t m. absurd (c.in_err-elements.ensures.meant t m)

pub returns-in-Some-clause-meant : goal.returns-in-Some-clause-meant
returns-in-Some-clause-meant c = λ t m.
    let found = some_spots c.args.bytes.now c.in-Some.elements (array_values t) (rw c.in-Some.is at (c.in_ok-elements.ensures.meant t m)) in
    grind (arith, values_of_array, c.elements_truth.ensures.meant)

pub returns-in-None-clause-meant : goal.returns-in-None-clause-meant
returns-in-None-clause-meant c = search (rules, no_spots, same_outcome, other_values)
