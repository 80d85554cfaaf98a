use Rattle.jsonb.proofs.Lemmas.{◌≡◌, List, map, flat_map, HasSpotsLeft, Tree, compare, value_view, values_of_item}
use Rattle.jsonb.proofs.selector.compared_member.each_truth.Given as goal

-- the items that are left decide the result of all
abbrev pub invariant-loop-item : goal.invariant-loop-item
invariant-loop-item l = (ts : List Tree) → HasSpotsLeft l.bytes l.fn.items ts
    → (rest : List Tree) × HasSpotsLeft l.bytes l.item-iterator rest
    × (compare l.op (flat_map values_of_item ts) (map value_view l.rights)
    ≡ compare l.op (flat_map values_of_item rest) (map value_view l.rights))
