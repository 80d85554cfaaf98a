use Rattle.jsonb_doc.proofs.Lemmas.{◌≡◌, ◌++◌, length, unique}
use Rattle.jsonb_doc.proofs.event_list.sorting.push_last.Given as goal

-- what is appended so far, and what the rest yields
abbrev pub invariant-loop-left : goal.invariant-loop-left
invariant-loop-left l = l.ended.items ++ unique l.left ≡ l.fn.ended.items ++ unique l.members

abbrev pub decreases-loop-left : goal.decreases-loop-left
decreases-loop-left l = length l.left
