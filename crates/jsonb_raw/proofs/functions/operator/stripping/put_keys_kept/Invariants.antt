use Rattle.jsonb_raw.proofs.Lemmas.{◌≤◌, ◌++◌, ℕ, List, length, map, Tree, text, Form, Around, IsWriting, HoldTrees, beside, KeysOpen}
use Rattle.jsonb_raw.proofs.functions.operator.stripping.put_keys_kept.Given as goal

-- the keys that are left come next
abbrev pub invariant-loop-others : goal.invariant-loop-others
invariant-loop-others l = (form : Form) (ks : List (List ℕ)) (vs coming : List Tree) (around : Around) (whole : Tree) → HoldTrees form l.keys (map text ks)
    → HoldTrees form l.values vs → length ks ≤ length vs → IsWriting form l.fn.writer (map text (beside vs ks) ++ coming) around whole
    → KeysOpen form l.run l.left l.words l.writer coming around whole

abbrev pub decreases-loop-others : goal.decreases-loop-others
decreases-loop-others l = length l.left.words.now
