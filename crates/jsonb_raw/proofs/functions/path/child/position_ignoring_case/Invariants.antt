use Rattle.jsonb_raw.proofs.Lemmas.{◌≡◌, ◌+◌, ◌≤◌, List, ℕ, length, map, text, Form, position_in_some_case, HoldTrees, found_behind_both}
use Rattle.jsonb_raw.proofs.functions.path.child.position_ignoring_case.Given as goal

-- the position is that among the keys that are left, after those that were passed
abbrev pub invariant-loop-key : goal.invariant-loop-key
invariant-loop-key l = record {
  bound : l.passed + length l.left.words.now ≤ length l.entries.words.now;
  left : (form : Form) (ks : List (List ℕ)) → HoldTrees form l.entries (map text ks)
      → (others : List (List ℕ)) × HoldTrees form l.left (map text others)
      × (found_behind_both l.passed l.in_other_case l.name others ≡ position_in_some_case l.name ks);
}

abbrev pub decreases-loop-key : goal.decreases-loop-key
decreases-loop-key l = length l.left.words.now
