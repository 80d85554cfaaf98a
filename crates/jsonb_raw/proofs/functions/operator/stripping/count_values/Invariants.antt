use Rattle.jsonb_raw.proofs.Lemmas.{true, ◌+◌, ◌≤◌, List, length, Tree, Form, HoldTrees, stripped, ValuesCounted}
use Rattle.jsonb_raw.proofs.functions.operator.stripping.count_values.Given as goal

-- the values so far, and those that are left, are all
abbrev pub invariant-loop-kind : goal.invariant-loop-kind
invariant-loop-kind l = record {
  bound : l.count + length l.left ≤ length l.values.words.now;
  left : (form : Form) (ts : List Tree) → HoldTrees form l.values ts → ValuesCounted form l.count l.left (length (stripped true ts));
}

abbrev pub decreases-loop-kind : goal.decreases-loop-kind
decreases-loop-kind l = length l.left
