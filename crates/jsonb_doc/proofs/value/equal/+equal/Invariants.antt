use Rattle.jsonb_doc.proofs.Lemmas.{◌≡◌, ◌+◌, ◌-◌, ◌*◌, ◌≤◌, ◌&&◌, iter_rest, is_equal, value_tree, parts, values_parts, entries_parts, values_same, entries_same, told_parts}
use Rattle.jsonb_doc.proofs.Common.{told}
use Rattle.jsonb_doc.proofs.value.equal.+equal.Given as goal

-- that many parts, and then the functions in turn
abbrev pub decreases-parts_compared : goal.decreases-parts_compared
decreases-parts_compared l = 8 * parts l.value.now

abbrev pub decreases-reduced : goal.decreases-reduced
decreases-reduced l = 8 * parts l.value.now + 1

abbrev pub decreases-equal : goal.decreases-equal
decreases-equal l = 8 * parts l.value.now + 2

abbrev pub decreases-compared_again : goal.decreases-compared_again
decreases-compared_again l = 8 * told_parts l.left + 4

abbrev pub decreases-both : goal.decreases-both
decreases-both l = 8 * (told_parts l.first + told_parts l.second) + 4

abbrev pub decreases-with_open : goal.decreases-with_open
decreases-with_open l = 8 * (told_parts l.joined.left + told_parts l.part) + 5

abbrev pub decreases-Joined::goes_on : goal.decreases-Joined::goes_on
decreases-Joined::goes_on l = 8 * (told_parts l.self.now.left + parts l.value.now) + 6

abbrev pub decreases-values_compared : goal.decreases-values_compared
decreases-values_compared l = 8 * values_parts (iter_rest l.values) + 7

abbrev pub decreases-members_compared : goal.decreases-members_compared
decreases-members_compared l = 8 * entries_parts l.members + 7

-- what is left decides what all decides
abbrev pub invariant-reduced-loop-left : goal.invariant-reduced-loop-left
invariant-reduced-loop-left l = record {
  same : told l.left ≡ is_equal (value_tree l.fn.value) (value_tree l.fn.other);
  fewer : told_parts l.left ≤ parts l.fn.value;
}

abbrev pub decreases-reduced-loop-left : goal.decreases-reduced-loop-left
decreases-reduced-loop-left l = told_parts l.left

-- what is left of those before, and those that are left
abbrev pub invariant-values_compared-loop-value : goal.invariant-values_compared-loop-value
invariant-values_compared-loop-value l = record {
  same : (told l.joined.left && values_same (iter_rest l.values) (iter_rest l.others)) ≡ values_same (iter_rest l.fn.values) (iter_rest l.fn.others);
  fewer : told_parts l.joined.left + values_parts (iter_rest l.values) ≤ values_parts (iter_rest l.fn.values);
}

abbrev pub invariant-members_compared-loop-key : goal.invariant-members_compared-loop-key
invariant-members_compared-loop-key l = record {
  same : (told l.joined.left && entries_same l.members l.others) ≡ entries_same l.fn.members l.fn.others;
  fewer : told_parts l.joined.left + entries_parts l.members ≤ entries_parts l.fn.members;
}

-- both are unchanged
abbrev pub invariant-with_open-loop-within : goal.invariant-with_open-loop-within
invariant-with_open-loop-within l = record {
  same : (told l.first && told l.second) ≡ (told l.fn.joined.left && told l.fn.part);
  fewer : told_parts l.first + told_parts l.second ≤ told_parts l.fn.joined.left + told_parts l.fn.part;
}

abbrev pub decreases-with_open-loop-within : goal.decreases-with_open-loop-within
decreases-with_open-loop-within l = l.most - l.within
