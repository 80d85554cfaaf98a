use Rattle.jsonb_raw.proofs.Lemmas.{List, length, Tree, Form, Stores, count_of, HoldTrees, MoreLeft}
use Rattle.jsonb_raw.proofs.functions.array.seen.has_more_than.Given as goal

abbrev pub invariant-loop-entry : goal.invariant-loop-entry
invariant-loop-entry l = (form other_form : Form) (ts : List Tree) (u : Tree) → HoldTrees form l.fn.entries ts → Stores other_form l.wanted u
    → MoreLeft form l.left l.more l.fn.count u (count_of u ts)

abbrev pub decreases-loop-entry : goal.decreases-loop-entry
decreases-loop-entry l = length l.left.words.now
