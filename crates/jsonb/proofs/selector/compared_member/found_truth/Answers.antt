use Rattle.jsonb.proofs.Lemmas.{rules, ap, ◌∙◌, append-nil, flat_map, map, Ok, Locates, compare, values_of_item, value_view, answered, same_outcome, one_member, no_member}
use Rattle.jsonb.proofs.selector.compared_member.found_truth.Goals as goal

pub returns-in-Some-clause-meant : goal.returns-in-Some-clause-meant
returns-in-Some-clause-meant c = λ ts h.
    let one = one_member (Locates c.args.bytes.now) _ c.in-Some.found ts c.in-Some.is h in
    same_outcome (ap (λ vs. Ok (compare c.args.op vs (map value_view c.args.rights.now)))
    (ap (λ us. flat_map values_of_item us) one.1 ∙ append-nil (values_of_item one.0)))
    (c.compared_truth.ensures.meant one.0 one.2)

pub returns-in-None-clause-meant : goal.returns-in-None-clause-meant
returns-in-None-clause-meant c = search (rules, answered, no_member)
