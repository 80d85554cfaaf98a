use Rattle.jsonb_raw.proofs.Lemmas.{◌+◌, ◌∷◌, reverse, Tree, Form, number_reader, IsContent, deepest, sortable_key, width_of, SomeParts, weight, weights, IsWithin}
use Rattle.jsonb_raw.proofs.sortable_key.push_parts.Given as goal

-- what is written, and then the keys of what each level has left, the innermost first, is the key of the whole
abbrev pub invariant-walk : goal.invariant-walk
invariant-walk l = (form : Form) (tree : Tree) → IsContent (number_reader form) tree 5 l.fn.bytes
    → SomeParts form l.level l.around.items
    (λ here others. IsWithin (width_of l.fn.width) l.out.items (here ∷ others) l.fn.out.items (sortable_key (width_of l.fn.width) tree 0) (deepest tree))

abbrev pub decreases-walk : goal.decreases-walk
decreases-walk l = weight l.level + weights (reverse l.around.items)
