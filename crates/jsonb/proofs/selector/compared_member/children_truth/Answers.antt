use Rattle.jsonb.proofs.Lemmas.{arith, nat_tests, nil_from_length, refl, sym, ◌∙◌, Locates, AreRefused, one_member, no_member, failed_as, first_refused, followed, same_outcome, children_of_item, children_of_none, children_of_one, children_truth_is}
use Rattle.jsonb.proofs.selector.compared_member.children_truth.Goals as goal

pub returns-then-is_empty-clause-meant : goal.returns-then-is_empty-clause-meant
returns-then-is_empty-clause-meant c = λ e top t k m.
    let tested = sym c.is_empty.ensures ∙ c.if-is_empty.true in
    let none = nil_from_length c.args.comparison.now.names.now (grind (arith, nat_tests)) in
    same_outcome (children_of_item c.args.comparison.now e c.args.mode top t k none) (c.values_truth.ensures.meant t m)

pub returns-in_err-parent-clause-meant : goal.returns-in_err-parent-clause-meant
returns-in_err-parent-clause-meant c = λ e top t k m.
    failed_as c.from_residual.ensures.1 (same_outcome (children_truth_is c.args.comparison.now e c.args.mode top t k)
    (first_refused _ (c.in_err-parent.ensures.meant AreRefused top t k.members m)))

pub returns-in-Some-clause-meant : goal.returns-in-Some-clause-meant
returns-in-Some-clause-meant c = λ e top t k m.
    same_outcome (children_truth_is c.args.comparison.now e c.args.mode top t k)
    (followed _ (c.in_ok-parent.ensures.meant AreRefused top t k.members m) (λ us related.
    let one = one_member (Locates c.args.bytes.now) c.in_ok-parent.field-0 c.in-Some.parent us c.in-Some.is related in
    same_outcome (children_of_one c.args.comparison.now c.args.mode one.0 us one.1) (c.values_truth-in-Some.ensures.meant one.0 one.2)))

pub returns-in-None-clause-meant : goal.returns-in-None-clause-meant
returns-in-None-clause-meant c = λ e top t k m.
    same_outcome (children_truth_is c.args.comparison.now e c.args.mode top t k)
    (followed _ (c.in_ok-parent.ensures.meant AreRefused top t k.members m) (λ us related.
    same_outcome (children_of_none c.args.comparison.now c.args.mode us (no_member (Locates c.args.bytes.now) c.in_ok-parent.field-0 us c.in-None.is related))
    (record { ok = refl; err = tt })))
