use Rattle.jsonb_raw.proofs.Lemmas.{◌+◌, reverse, Tree, Form, StandsFor, leaves, IsKept, steps_within, levels_around, SomeParts, weight, weights, LeavesToward, All}
use Rattle.jsonb_raw.proofs.functions.path.leaves.leaves_within.Given as goal

-- what is found, and then the leaves of what each level has left, the innermost first, are the leaves of the whole
abbrev pub invariant-walk : goal.invariant-walk
invariant-walk g l = record {
  whole : All (λ leaf. g.P.LeafOutput.IsReadable leaf.1) l.found.items;
  left : (form : Form) (t : Tree) → StandsFor form l.fn.item t
      → SomeParts form l.level (levels_around l.around.items)
      (λ here others. LeavesToward (IsKept (g.P.LeafOutput.IsOf form)) l.fn.ignore_array l.found.items (steps_within l.around.items) l.index here others
      (leaves l.fn.ignore_array t));
}

abbrev pub decreases-walk : goal.decreases-walk
decreases-walk g l = weight l.level + weights (reverse (levels_around l.around.items))
