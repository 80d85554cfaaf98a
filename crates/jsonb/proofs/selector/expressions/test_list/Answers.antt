use Rattle.jsonb.proofs.Lemmas.{node_spots, step_meaning, filter, subst, sym, AllZip, Locates, try_flat_map, list_then, list_with_repeats}
use Rattle.jsonb.proofs.selector.expressions.test_list.Goals as goal

pub returns-clause-meant : goal.returns-clause-meant
returns-clause-meant c = λ e top o tested h.
    let bytes = c.args.context.now.document.bytes.now in
    let f = step_meaning c.args.context.now.mode (filter e) top in
    list_then bytes f (node_spots c.in_ok-list.field-0) o c.tested_items.result (rw c.in_ok-list.was at h).ok
    (λ vs at. list_with_repeats bytes c.tested_items.result (try_flat_map f vs)
    (c.tested_items.ensures.meant e top vs tested (subst (λ s. AllZip (Locates bytes) s vs) (sym c.as_slice.ensures) at)))
