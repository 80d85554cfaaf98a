use Rattle.jsonb_raw.proofs.Lemmas.{◌≤◌, ◌+◌, ◌*◌, length, IfSome, Tree, Trees, is_equal, are_equal, Form, StandsFor, item_size, HasEntriesLeft, entries_room, Decides, SomeEntries}
use Rattle.jsonb_raw.proofs.EntryEquals.{Aside, IsAnswer, first_left}
use Rattle.jsonb_raw.proofs.equal_items.+equal.Given as goal

abbrev pub decreases-items_equal : goal.decreases-items_equal
decreases-items_equal l = 8 * item_size l.item.now + 4

abbrev pub decreases-parts_equal : goal.decreases-parts_equal
decreases-parts_equal l = 8 * item_size l.item.now + 3

abbrev pub decreases-objects_equal : goal.decreases-objects_equal
decreases-objects_equal l = 8 * length l.bytes.now + 2

abbrev pub decreases-entries_equal : goal.decreases-entries_equal
decreases-entries_equal l = 8 * entries_room l.found + 7

abbrev pub decreases-stored_equal : goal.decreases-stored_equal
decreases-stored_equal l = 8 * length l.entry.now.content.now + 6

abbrev pub decreases-stored_items_equal : goal.decreases-stored_items_equal
decreases-stored_items_equal l = 8 * length l.entry.now.content.now + 5

-- the parts that are left decide the whole
abbrev pub invariant-items_equal-loop-left : goal.invariant-items_equal-loop-left
invariant-items_equal-loop-left l = record {
  shorter : first_left l.left ≤ item_size l.fn.item + 1;
  left : (form other_form : Form) (t u : Tree) → StandsFor form l.fn.item t → StandsFor other_form l.fn.other u
      → Decides is_equal form other_form l.left (is_equal t u);
}

abbrev pub decreases-items_equal-loop-left : goal.decreases-items_equal-loop-left
decreases-items_equal-loop-left l = first_left l.left

-- what is left of both decides what all decides, with the pair that was put aside
abbrev pub invariant-entries_equal-loop-entry : goal.invariant-entries_equal-loop-entry
invariant-entries_equal-loop-entry l = record {
  room : entries_room l.entry-iterator ≤ entries_room l.fn.found;
  size : IfSome l.large (λ pair. length pair.0.content.now ≤ entries_room l.fn.found);
  left : (form other_form : Form) (ts us : Trees) → HasEntriesLeft form l.fn.found ts → HasEntriesLeft other_form l.fn.others us
      → SomeEntries form l.entry-iterator
      (λ left. SomeEntries other_form l.rest (λ right. Aside (IsAnswer is_equal form other_form l.large) (are_equal left right) (are_equal ts us)));
}
