use Rattle.jsonb_raw.proofs.Lemmas.{◌+◌, ◌≤◌, List, take, Tree, Form, Stores, count_of, HoldTrees, EqualLeft}
use Rattle.jsonb_raw.proofs.functions.array.seen.count_equal.Given as goal

abbrev pub invariant-loop-more : goal.invariant-loop-more
invariant-loop-more l = record {
  bound : l.equal + l.more ≤ l.fn.count;
  left : (form other_form : Form) (ts : List Tree) (u : Tree) → HoldTrees form l.fn.entries ts → Stores other_form l.wanted u
      → EqualLeft form l.left l.more l.equal u (count_of u (take l.fn.count ts));
}

abbrev pub decreases-loop-more : goal.decreases-loop-more
decreases-loop-more l = l.more
