use Rattle.jsonb_raw.proofs.Lemmas.{◌+◌, ◌≤◌, List, length, Tree, Form, Around, IsWriting, HoldTrees, stripped, ScalarsOpen}
use Rattle.jsonb_raw.proofs.functions.operator.stripping.put_scalars.Given as goal

-- the values that are left come next, without nulls
abbrev pub invariant-loop-entry : goal.invariant-loop-entry
invariant-loop-entry l = record {
  room : length l.rest.words.now + length l.rest.contents.now ≤ length l.left.entries.words.now + length l.left.entries.contents.now;
  values : (form : Form) (ts : List Tree) (around : Around) (whole : Tree) → HoldTrees form l.left.entries ts
      → IsWriting form l.fn.writer (stripped l.left.is_object ts) around whole
      → ScalarsOpen form l.left.is_object l.writer l.run l.rest around whole;
}

abbrev pub decreases-loop-entry : goal.decreases-loop-entry
decreases-loop-entry l = length l.rest.words.now
