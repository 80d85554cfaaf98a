use Rattle.jsonb.proofs.Lemmas.{◌≡◌, ◌++◌, [], map, ap, ◌∙◌, Locates, AllZip, values_of_item, value_view, answered, failed_with, memory_only, no_spot, total_start, one_more, refused_in, at_end, list_first, list_end}
use Rattle.jsonb.proofs.selector.values.many_values.Goals as goal

pub loop-item-init : goal.loop-item-init
loop-item-init c = λ ts h.
    total_start values_of_item (AllZip (Locates c.args.bytes.now) c.args.items.now) (λ vs. map value_view c.in_ok-values.values.items ≡ vs) ts [] h
    (ap (map value_view) c.in_ok-values.ensures.items)

pub returns-in_err-push_values-clause-meant : goal.returns-in_err-push_values-clause-meant
returns-in_err-push_values-clause-meant c = λ ts h.
    failed_with c.from_residual-in_err-push_values.ensures.1
    (memory_only (refused_in (c.loop-item.invariant ts h) (list_first (Locates c.args.bytes.now) c.args.items.now c.loop-item.item-index no_spot c.loop-item-test.true)
    (λ t so_far m d. memory_only (c.in_err-push_values.ensures.meant t m).err)))

pub loop-item-preserved : goal.loop-item-preserved
loop-item-preserved c = λ ts h.
    one_more (c.loop-item.invariant ts h) (list_first (Locates c.args.bytes.now) c.args.items.now c.loop-item.item-index no_spot c.loop-item-test.true)
    (λ t so_far m d. (c.in_ok-push_values.ensures.meant t m).ok ∙ ap (λ l. l ++ values_of_item t) d)

pub returns-clause-meant : goal.returns-clause-meant
returns-clause-meant c = λ ts h. answered
    (at_end (c.loop-item.invariant ts h) (list_end (Locates c.args.bytes.now) c.args.items.now c.loop-item.item-index c.loop-item-test.false))
