use Rattle.jsonb_doc.proofs.Lemmas.{suc, max, MakesWhole, ◌≡◌, ◌+◌, ◌*◌, ◌≤◌, ◌++◌, length, reverse, Tree, Trees, Pairs, elements, members, keys, trees_of, pairs_of, Form, number_reader, IsContent, AreKeys, item_size, HasEntriesLeft, HasPairEntriesLeft, entries_room, tree_seen, trees_seen, members_seen, KeepsNormal, open_room, Number, widest}
use Rattle.jsonb_doc.specs.Number as spec
use Rattle.jsonb_doc.specs.Private.Filling.{LeadsTo}
use Rattle.jsonb_doc.proofs.value.decode.+decode.Given as goal

abbrev pub decreases-item_value : goal.decreases-item_value
decreases-item_value l = 8 * item_size l.item.now + 5

abbrev pub decreases-entry_value : goal.decreases-entry_value
decreases-entry_value l = 8 * length l.entry.now.content.now + 7

abbrev pub decreases-read_value : goal.decreases-read_value
decreases-read_value l = 8 * length l.entry.now.content.now + 6

abbrev pub decreases-container_value : goal.decreases-container_value
decreases-container_value l = 8 * length l.bytes.now + 4

abbrev pub decreases-value_around : goal.decreases-value_around
decreases-value_around l = 8 * max (suc (open_room l.outer)) (length l.part.now) + 3

abbrev pub decreases-opened : goal.decreases-opened
decreases-opened l = 8 * length l.bytes.now + 2

abbrev pub decreases-closed_all : goal.decreases-closed_all
decreases-closed_all l = 8 * widest (reverse l.around.items) + 2

abbrev pub decreases-closed : goal.decreases-closed
decreases-closed l = 8 * open_room l.outer + 9

abbrev pub decreases-fill_array : goal.decreases-fill_array
decreases-fill_array l = 8 * entries_room l.left + 8

abbrev pub decreases-fill_object : goal.decreases-fill_object
decreases-fill_object l = 8 * entries_room l.left.values + 8

-- the tree is that of the child that is being decoded, with the containers around it
abbrev pub invariant-value_around-loop-around : goal.invariant-value_around-loop-around
invariant-value_around-loop-around l = record {
  left : (seen : Number → spec.Number) → KeepsNormal seen → (form : Form) (t whole : Tree) → IsContent (number_reader form) t 5 l.fn.part
      → MakesWhole seen form l.fn.outer t whole
      → (inner : Tree) × IsContent (number_reader form) inner 5 l.within × LeadsTo seen form (reverse l.around.items) inner whole;
  shorter : length l.within ≤ max (suc (open_room l.fn.outer)) (length l.fn.part);
  room : widest (reverse l.around.items) ≤ max (suc (open_room l.fn.outer)) (length l.fn.part);
}

abbrev pub decreases-value_around-loop-around : goal.decreases-value_around-loop-around
decreases-value_around-loop-around l = length l.within

-- the value so far leads to what the first one does
abbrev pub invariant-closed_all-loop-outer : goal.invariant-closed_all-loop-outer
invariant-closed_all-loop-outer l = record {
  left : (seen : Number → spec.Number) → KeepsNormal seen → (form : Form) (t : Tree) → LeadsTo seen form (reverse l.fn.around.items)
      (tree_seen seen l.fn.value) t
      → LeadsTo seen form (reverse l.around.items) (tree_seen seen l.value) t;
  room : widest (reverse l.around.items) ≤ widest (reverse l.fn.around.items);
}

abbrev pub decreases-closed_all-loop-outer : goal.decreases-closed_all-loop-outer
decreases-closed_all-loop-outer l = length l.around.items

-- the values so far, followed by the elements that are left, are the array's
abbrev pub invariant-fill_array-loop-entry : goal.invariant-fill_array-loop-entry
invariant-fill_array-loop-entry l = record {
  room : entries_room l.left ≤ entries_room l.fn.left;
  left : (seen : Number → spec.Number) → KeepsNormal seen → (form : Form) (ts : Trees) → HasEntriesLeft form l.fn.left ts
      → (rest : Trees) × HasEntriesLeft form l.left rest
      × (trees_of (trees_seen seen l.values.items ++ elements rest) ≡ trees_of (trees_seen seen l.fn.values.items ++ elements ts));
}

-- the members so far, followed by the pairs that are left, are the object's
abbrev pub invariant-fill_object-loop-pair : goal.invariant-fill_object-loop-pair
invariant-fill_object-loop-pair l = record {
  room : entries_room l.left.values ≤ entries_room l.fn.left.values;
  left : (seen : Number → spec.Number) → KeepsNormal seen → (form : Form) (ps : Pairs) → HasPairEntriesLeft form l.fn.left ps
      → AreKeys (keys (pairs_of (members_seen seen l.fn.members.entries ++ members ps)))
      → (rest : Pairs) × HasPairEntriesLeft form l.left rest
      × (pairs_of (members_seen seen l.members.entries ++ members rest) ≡ pairs_of (members_seen seen l.fn.members.entries ++ members ps));
}
