use Rattle.jsonb.proofs.Lemmas.{sym, node_spots, values_view, subst, AllZip, Locates, list_truth}
use Rattle.jsonb.proofs.selector.expressions.list_compared.Goals as goal

pub returns-in-Ok-Ok-clause-meant : goal.returns-in-Ok-Ok-clause-meant
returns-in-Ok-Ok-clause-meant c = λ l r h k.
    list_truth c.args.op c.args.bytes.now (node_spots c.in-Ok-Ok.lefts) (values_view c.in-Ok-Ok.rights) l r c.spots_truth.result (rw c.in-Ok-Ok.is-0 at h).ok
    (rw c.in-Ok-Ok.is-1 at k).ok
    (λ us zip. rw c.as_slice-in-Ok-Ok.ensures at (c.spots_truth.ensures.meant us (subst (λ s. AllZip (Locates c.args.bytes.now) s us) (sym c.as_slice.ensures) zip)))
