use Rattle.jsonb.proofs.Lemmas.{arith, ap, ◌∙◌, append-nil, flat_map, Ok, Locates, compare, values_of_item, same_outcome, compared_with_none, one_member, no_member}
use Rattle.jsonb.proofs.selector.compared_member.members_compared.Goals as goal

pub returns-in-Some-Some-clause-meant : goal.returns-in-Some-Some-clause-meant
returns-in-Some-Some-clause-meant c = λ ts us a b.
    let l = one_member (Locates c.args.bytes.now) c.args.left c.in-Some-Some.left ts (grind arith) a in
    let r = one_member (Locates c.args.bytes.now) c.args.right c.in-Some-Some.right us (grind arith) b in
    same_outcome (ap (λ vs. Ok (compare c.args.op vs (flat_map values_of_item us)))
    (ap (λ ts. flat_map values_of_item ts) l.1 ∙ append-nil (values_of_item l.0))
    ∙ ap (λ vs. Ok (compare c.args.op (values_of_item l.0) vs))
    (ap (λ ts. flat_map values_of_item ts) r.1 ∙ append-nil (values_of_item r.0)))
    (c.items_compared.ensures.meant l.0 r.0 l.2 r.2)

pub returns-in-Some-None-clause-meant : goal.returns-in-Some-None-clause-meant
returns-in-Some-None-clause-meant c = λ ts us a b. grind (arith, no_member, compared_with_none)
