use Rattle.jsonb.proofs.Lemmas.{sym, ◌∙◌, arith, nat_tests, nil_from_length, items_truth, failed_as, same_outcome, first_refused, followed, by_front, by_names, alike_items_truth}
use Rattle.jsonb.proofs.selector.compared_lists.list_compared_truth.Goals as goal

pub returns-then-is_empty-clause-meant : goal.returns-then-is_empty-clause-meant
returns-then-is_empty-clause-meant c = λ e top k r.
    let tested = sym c.is_empty.ensures ∙ c.if-is_empty.true in
    same_outcome (by_names c.args.list.now e top k (nil_from_length c.args.list.now.front.now (grind (arith, nat_tests))))
    (c.item_truth.ensures.meant k.each top top k.member r)

pub returns-in_err-found-clause-meant : goal.returns-in_err-found-clause-meant
returns-in_err-found-clause-meant c = λ e top k r.
    failed_as c.from_residual.ensures.1 (same_outcome (by_front c.args.list.now e top k)
    (first_refused (items_truth c.args.list.now.comparison top) (c.in_err-found.ensures.meant top top r r)))

pub returns-clause-meant : goal.returns-clause-meant
returns-clause-meant c = λ e top k r.
    same_outcome (by_front c.args.list.now e top k)
    (followed (items_truth c.args.list.now.comparison top) (c.in_ok-found.ensures.meant top top r r) (λ ts found.
    same_outcome (sym (alike_items_truth c.args.list.now.comparison top found.0 ts found.2))
    (c.items_truth.ensures.meant k.each top found.0 k.member (rw c.as_slice.ensures found.1))))
