use Rattle.jsonb_doc.proofs.Lemmas.{◌≡◌, ◌+◌, length, unique}
use Rattle.jsonb_doc.proofs.event_list.sorting.are_unique.Given as goal

-- all members stay if those that are left do, and otherwise fewer
abbrev pub invariant-loop-left : goal.invariant-loop-left
invariant-loop-left l = record {
  all : unique l.left ≡ l.left → unique l.members ≡ l.members;
  fewer : length (unique l.members) + length l.left ≡ length l.members + length (unique l.left);
}

abbrev pub decreases-loop-left : goal.decreases-loop-left
decreases-loop-left l = length l.left
