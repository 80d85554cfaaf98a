use Rattle.jsonb_doc.proofs.Lemmas.{ℕ, ◌≤◌, List, length, Tree, Form, Around, IsWriting, HoldParts, Member}
use Rattle.jsonb_doc.proofs.event_list.writing.put_scalars.Given as goal

-- the values of the members that are left come next
abbrev pub invariant-loop-left : goal.invariant-loop-left
invariant-loop-left l = record {
  few : length l.left ≤ length l.members;
  values : (form : Form) (ds : List Member) (room : ℕ) (ts : List Tree) (around : Around) (whole : Tree) → HoldParts ds room l.members ts
      → IsWriting form l.fn.writer ts around whole
      → (us : List Tree) × HoldParts ds room l.left us × IsWriting form l.writer us around whole;
}

abbrev pub decreases-loop-left : goal.decreases-loop-left
decreases-loop-left l = length l.left
