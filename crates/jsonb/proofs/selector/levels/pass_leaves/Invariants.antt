use Rattle.jsonb.proofs.Lemmas.{◌≡◌, ◌≤◌, ℕ, List, Option, Locates, HasSpotsLeft, spots_room, spots_bound, Tree, Levels, answer_at, AllZip, PassedSo}
use Rattle.jsonb.proofs.selector.levels.pass_leaves.Given as goal

-- those that are passed, and then those that are left, are all
abbrev pub invariant-loop-child : goal.invariant-loop-child
invariant-loop-child l = record {
  room : spots_room l.left ≤ spots_room l.children;
  bound : spots_bound l.left ≤ spots_bound l.children;
  passed : (bytes : List ℕ) (levels : Option Levels) (n : ℕ) (ts before : List Tree) → l.is_taken ≡ (answer_at levels n).0 → HasSpotsLeft bytes l.children ts
      → AllZip (Locates bytes) l.fn.nodes.items before → PassedSo bytes levels n (HasSpotsLeft bytes l.left) ts before l.nodes.items;
}

abbrev pub decreases-loop-child : goal.decreases-loop-child
decreases-loop-child l = spots_bound l.left
