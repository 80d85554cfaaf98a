use Rattle.jsonb_raw.proofs.Lemmas.{List, [], length, Tree, Form, select_occurrences, HoldTrees, keeps, HaveSeen, KeptRuns}
use Rattle.jsonb_raw.proofs.functions.array.sets.kept_elements.Given as goal

abbrev pub invariant-loop-runs : goal.invariant-loop-runs
invariant-loop-runs l = (form : Form) (other ts : List Tree) → HoldTrees form l.entries ts → HaveSeen form l.kind l.fn.seen other [] ts
    → KeptRuns form l.kind l.seen other l.runs.items l.run l.left (select_occurrences (keeps l.kind other) ts)

abbrev pub decreases-loop-runs : goal.decreases-loop-runs
decreases-loop-runs l = length l.left.words.now
