use Rattle.jsonb_raw.proofs.Lemmas.{◌++◌, ◌∙◌, ap, arith, sortable_key, width_of, decoded_ranks}
use Rattle.jsonb_raw.proofs.sortable_key.sortable_key.Goals as goal

pub returns-clause-order : goal.returns-clause-order
returns-clause-order c = λ form tree d none u k.
    let made = c.in_ok-push_sortable_key.ensures.key form tree d in
    decoded_ranks (width_of c.args.width) form c.args.bytes.now _ tree (λ i. omega (arith, c.type_inv.bytes i)) d
    (made.0 ∙ ap (λ xs. xs ++ sortable_key (width_of c.args.width) tree 0) c.in_ok-out.ensures.items) made.1 none u k
