use Rattle.jsonb_raw.proofs.Lemmas.{ℕ, List, length, map, text, Form, AreSortedKeys, HoldTrees, IsAboveLast}
use Rattle.jsonb_raw.proofs.functions.operator.stripping.check_keys.Given as goal

-- the keys that are left are sorted, and above the last one
abbrev pub invariant-loop-key : goal.invariant-loop-key
invariant-loop-key l = (form : Form) (ks : List (List ℕ)) → HoldTrees form l.keys (map text ks) → AreSortedKeys ks
    → (names : List (List ℕ)) × HoldTrees form l.left (map text names) × AreSortedKeys names × IsAboveLast l.last names

abbrev pub decreases-loop-key : goal.decreases-loop-key
decreases-loop-key l = length l.left.words.now
