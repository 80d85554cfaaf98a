use Rattle.jsonb.proofs.Lemmas.{◌≡◌, Ok, List, map, flat_map, drop, Locates, Tree, AllZip, values_of_item, value_view, Progress}
use Rattle.jsonb.proofs.selector.values.many_values.Given as goal

abbrev pub invariant-loop-item : goal.invariant-loop-item
invariant-loop-item l = (ts : List Tree) → AllZip (Locates l.bytes) l.items ts →
    Progress (AllZip (Locates l.bytes) (drop l.item-index l.items)) (λ vs. map value_view l.values.items ≡ vs) (λ t. Ok (values_of_item t))
    (Ok (flat_map values_of_item ts))
