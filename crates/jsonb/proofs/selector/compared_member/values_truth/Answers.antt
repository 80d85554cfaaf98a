use Rattle.jsonb.proofs.Lemmas.{some_spots, no_spots, values_of, arith}
use Rattle.jsonb.proofs.selector.compared_member.values_truth.Goals as goal

pub returns-in_err-values-clause-meant : goal.returns-in_err-values-clause-meant
returns-in_err-values-clause-meant c = λ t m. absurd (c.in_err-values.ensures.meant t m)

pub returns-in-Some-clause-meant : goal.returns-in-Some-clause-meant
returns-in-Some-clause-meant c = λ t m.
    let found = some_spots c.args.bytes.now c.in-Some.values (values_of t) (rw c.in-Some.is at (c.in_ok-values.ensures.meant t m)) in
    grind (arith, c.each_truth.ensures.meant found.0 found.2, found.1, c.from_ref-rights.ensures.value)

pub returns-in-Strict-clause-meant : goal.returns-in-Strict-clause-meant
returns-in-Strict-clause-meant c = λ t m.
    let none = no_spots c.args.bytes.now (values_of t) (rw c.in-None.is at (c.in_ok-values.ensures.meant t m)) in
    grind (arith, none)

pub returns-in-Lax-clause-meant : goal.returns-in-Lax-clause-meant
returns-in-Lax-clause-meant c = λ t m.
    let none = no_spots c.args.bytes.now (values_of t) (rw c.in-None.is at (c.in_ok-values.ensures.meant t m)) in
    grind (arith, none)
