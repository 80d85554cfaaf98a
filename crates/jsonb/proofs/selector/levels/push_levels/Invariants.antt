use Rattle.jsonb.proofs.Lemmas.{◌≡◌, ◌++◌, ◌+◌, ℕ, List, min, reverse, Locates, Tree, preorder, AllZip, Walked, weight, weights}
use Rattle.jsonb.proofs.selector.levels.push_levels.Given as goal

-- what is given, and then what each level has left, the innermost first, is the whole
abbrev pub invariant-walk : goal.invariant-walk
invariant-walk l = record {
  whole : (t : Tree) (n : ℕ) (before : List Tree) → l.level ≡ min n 256 → Locates l.bytes l.fn.item t → AllZip (Locates l.bytes) l.fn.nodes.items before
      → Walked l.bytes l.fn.levels l.within l.around.items l.nodes.items (before ++ preorder l.fn.levels n t);
}

abbrev pub decreases-walk : goal.decreases-walk
decreases-walk l = weight l.within + weights (reverse l.around.items)
