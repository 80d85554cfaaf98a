use Rattle.jsonb_raw.proofs.Lemmas.{◌≤◌, ◌+◌, ◌*◌, List, length, IfSome, ordering_then, slice_cmp, Tree, tree_cmp, Form, Stores, EntryPrefix, HasPartsLeft, level_room, level_bound, part_cmp, SomeOfBoth}
use Rattle.jsonb_raw.specs.Private.Order.{Decides}
use Rattle.jsonb_raw.proofs.LevelLemmas.{first_left}
use Rattle.jsonb_raw.proofs.order.+order.Given as goal

abbrev pub decreases-children_order : goal.decreases-children_order
decreases-children_order l = 8 * level_room l.found + 7

abbrev pub decreases-child_order : goal.decreases-child_order
decreases-child_order l = 8 * length l.child.now.1.content.now + 6

abbrev pub decreases-value_order : goal.decreases-value_order
decreases-value_order l = 8 * length l.entry.now.content.now + 5

abbrev pub decreases-entries_order : goal.decreases-entries_order
decreases-entries_order l = 8 * length l.entry.now.content.now + 4

abbrev pub decreases-parts_order : goal.decreases-parts_order
decreases-parts_order l = 8 * length l.entry.now.content.now + 3

-- the pair that is left, and the order after it, decide the whole
abbrev pub invariant-entries_order-loop-left : goal.invariant-entries_order-loop-left
invariant-entries_order-loop-left l = record {
  shorter : first_left l.left.deferred ≤ length l.fn.entry.content.now + 1;
  left : (form other_form : Form) (t u : Tree) → Stores form l.fn.entry t → Stores other_form l.fn.other u
      → Decides form other_form l.left.deferred l.left.order (tree_cmp t u);
}

abbrev pub decreases-entries_order-loop-left : goal.decreases-entries_order-loop-left
decreases-entries_order-loop-left l = first_left l.left.deferred

-- what is left of both decides what all decides, with the pair that is deferred
abbrev pub invariant-children_order-loop-child : goal.invariant-children_order-loop-child
invariant-children_order-loop-child l = record {
  room : level_room l.left ≤ level_room l.fn.found;
  size : IfSome l.deferred (λ pair. length pair.0.content.now ≤ level_room l.fn.found);
  left : (form other_form : Form) (ps qs : List EntryPrefix) → HasPartsLeft form l.fn.found ps → HasPartsLeft other_form l.fn.others qs
      → SomeOfBoth form other_form l.left l.rest
      (λ here there. Decides form other_form l.deferred (ordering_then (slice_cmp part_cmp here there) l.fn.after) (ordering_then (slice_cmp part_cmp ps qs) l.fn.after));
}

abbrev pub decreases-children_order-loop-child : goal.decreases-children_order-loop-child
decreases-children_order-loop-child l = level_bound l.left
