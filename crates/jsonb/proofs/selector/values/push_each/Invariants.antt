use Rattle.jsonb.proofs.Lemmas.{◌≡◌, ◌++◌, Ok, List, map, flat_map, HasSpotsLeft, Tree, value_of_item, value_view, Progress}
use Rattle.jsonb.proofs.selector.values.push_each.Given as goal

abbrev pub invariant-loop-element : goal.invariant-loop-element
invariant-loop-element l = (ts : List Tree) → HasSpotsLeft l.bytes l.fn.elements ts →
    Progress (HasSpotsLeft l.bytes l.element-iterator) (λ vs. map value_view l.values.items ≡ vs) (λ t. Ok (value_of_item t))
    (Ok (map value_view l.fn.values.items ++ flat_map value_of_item ts))
