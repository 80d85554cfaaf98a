use Rattle.jsonb_raw.proofs.Lemmas.{List, length, Tree, Form, Decodes, KeyPath, keys_view, YieldsItemsLeft, location, AreShort, Walked}
use Rattle.jsonb_raw.proofs.functions.path.delete.parents_of.Given as goal

-- what the steps that are left select in the tree of the entry comes after the positions so far
abbrev pub invariant-loop-step : goal.invariant-loop-step
invariant-loop-step g l = record {
  can : (goal.iterator-loop-step g).can_next l.step-iterator;
  finite : (goal.iterator-loop-step g).is_finite l.step-iterator;
  short : AreShort l.parents.items (length l.entry.content.now);
  left : (left : _ → List KeyPath) → YieldsItemsLeft (goal.iterator-loop-step g).next_gives left → (form : Form) (t : Tree) → Decodes form l.bytes t
      → Walked form t l.parents.items l.entry (keys_view (left l.step-iterator)) (location (keys_view (left l.fn.steps)) t);
}
