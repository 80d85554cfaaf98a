use Rattle.jsonb.proofs.Lemmas.{[], ◌∷◌, Ok, ap, ◌∙◌, append-nil, flat_map, compare, literal_view, values_of_item, Locates, arith, no_member, one_member, failed_as, first_refused, followed, same_outcome}
use Rattle.jsonb.specs.Values.{literal_value}
use Rattle.jsonb.proofs.selector.compared_lists.root_compared_truth.Goals as goal

pub returns-in_err-found-clause-meant : goal.returns-in_err-found-clause-meant
returns-in_err-found-clause-meant c = λ form e top k d.
    failed_as c.from_residual.ensures.1 (same_outcome (k c.args.mode top) (first_refused _ (c.in_err-found.ensures.meant form top d)))

pub returns-in-Some-clause-meant : goal.returns-in-Some-clause-meant
returns-in-Some-clause-meant c = λ form e top k d.
    same_outcome (k c.args.mode top) (followed _ (c.in_ok-found.ensures.meant form top d) (λ us related.
    let one = one_member (Locates c.args.bytes.now) _ c.in-Some.found us c.in-Some.is related in
    same_outcome (ap (λ vs. Ok (compare c.args.compared.op vs (literal_value (literal_view c.args.compared.literal.now) ∷ [])))
    (ap (flat_map values_of_item) one.1 ∙ append-nil (values_of_item one.0))) (c.compared_with.ensures.meant one.0 one.2)))

pub returns-in-None-clause-meant : goal.returns-in-None-clause-meant
returns-in-None-clause-meant c = λ form e top k d.
    same_outcome (k c.args.mode top) (followed _ (c.in_ok-found.ensures.meant form top d) (λ us related.
    grind (arith, no_member)))
