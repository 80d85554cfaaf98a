use Rattle.jsonb.proofs.Lemmas.{◌≡◌, ◌≤◌, List, length, take, reverse, Locates, Tree, Branch, evaluated, AreBranches}
use Rattle.jsonb.proofs.selector.evaluate.tests_truth.Given as goal

-- the tests that are left, from where the condition continues, have the truth of all
abbrev pub invariant-loop-left : goal.invariant-loop-left
invariant-loop-left l = record {
  within : l.left ≤ length l.tests;
  meant : (branches : List Branch) (top t : Tree) → AreBranches (reverse l.tests) branches → Locates l.bytes l.item t →
      (rest : List Branch) × AreBranches (reverse (take l.left l.tests)) rest
      × (evaluated l.mode top t branches l.fn.start ≡ evaluated l.mode top t rest l.state);
}

abbrev pub decreases-loop-left : goal.decreases-loop-left
decreases-loop-left l = l.left
