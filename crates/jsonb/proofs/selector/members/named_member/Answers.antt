use Rattle.jsonb.proofs.Lemmas.{◌≡◌, ◌≤◌, [], length, drop, arith, drop_of_length-le, failed_as, step_view, step_meaning, AreRefused, member_first, nothing_behind}
use Rattle.jsonb.proofs.selector.members.named_member.Goals as goal

pub returns-in-len1-clause-meant : goal.returns-in-len1-clause-meant
returns-in-len1-clause-meant c = λ top t all m.
    let given = step_meaning c.args.mode (step_view c.step-item.result) top t in
    let first = member_first c.args.steps.now 0 c.step-item.result (omega (arith, c.in-len1.len_at_least)) c.step-item.is all in
    let few : length c.args.steps.now ≤ 1 = omega (arith, c.in-len1.len_below) in
    let none : drop 1 c.args.steps.now ≡ [] = drop_of_length-le c.args.steps.now few in
    grind (arith, none, nothing_behind c.args.mode top given, c.member_of.ensures.meant top t first.0 (rw c.spot_by_parts-in-len1.ensures m))

pub returns-in_err-found-in_default-clause-meant : goal.returns-in_err-found-in_default-clause-meant
returns-in_err-found-in_default-clause-meant c = λ top t all m.
    failed_as c.from_residual.ensures.1 (c.in_err-found-in_default.ensures.meant AreRefused top t all (rw c.spot_by_parts-in_default.ensures m))

pub returns-in-Some-clause-meant : goal.returns-in-Some-clause-meant
returns-in-Some-clause-meant c = λ top t all m.
    rw c.spot_by_parts-in-Some.ensures
    (rw c.in-Some.is at (c.in_ok-found-in_default.ensures.meant AreRefused top t all (rw c.spot_by_parts-in_default.ensures m)))

pub returns-in-None-clause-meant : goal.returns-in-None-clause-meant
returns-in-None-clause-meant c = λ top t all m.
    rw c.in-None.is at (c.in_ok-found-in_default.ensures.meant AreRefused top t all (rw c.spot_by_parts-in_default.ensures m))
