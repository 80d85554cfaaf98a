use Rattle.jsonb.proofs.Lemmas.{◌≡◌, List, map, flat_map, HasSpotsLeft, Tree, compare, value_view, value_of_item}
use Rattle.jsonb.proofs.selector.compared_member.elements_truth.Given as goal

-- the elements that are left decide the result of all
abbrev pub invariant-loop-element : goal.invariant-loop-element
invariant-loop-element l = (ts : List Tree) → HasSpotsLeft l.bytes l.fn.elements ts
    → (rest : List Tree) × HasSpotsLeft l.bytes l.element-iterator rest
    × (compare l.op (flat_map value_of_item ts) (map value_view l.rights)
    ≡ compare l.op (flat_map value_of_item rest) (map value_view l.rights))
