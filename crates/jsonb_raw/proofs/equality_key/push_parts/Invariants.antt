use Rattle.jsonb_raw.proofs.Lemmas.{◌≡◌, ◌+◌, ◌++◌, ◌∷◌, ℕ, List, Some, reverse, Tree, Form, equality_key, equality_start, IsLevelOf, SomeParts, weight, weights, keys_of_levels}
use Rattle.jsonb_raw.proofs.equality_key.push_parts.Given as goal

-- what is written, and then the keys of what each level has left, the innermost first, is the key of the whole
abbrev pub invariant-walk : goal.invariant-walk
invariant-walk l = (form : Form) (tree : Tree) (front : List ℕ) → IsLevelOf form tree (Some l.fn.found) → l.fn.out.items ≡ front ++ equality_start tree
    → SomeParts form l.level l.around.items (λ here others. l.out.items ++ keys_of_levels (here ∷ others) ≡ front ++ equality_key tree)

abbrev pub decreases-walk : goal.decreases-walk
decreases-walk l = weight l.level + weights (reverse l.around.items)
