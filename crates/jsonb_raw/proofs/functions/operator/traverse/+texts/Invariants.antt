use Rattle.jsonb_raw.proofs.Lemmas.{◌<◌, ◌≤◌, ◌+◌, ◌*◌, length, Bool, IfSome, Tree, Trees, Pairs, array, object, Form, Decodes, StandsFor, item_size, entries_room, texts, texts_of_trees, texts_of_pairs, Tells, Leaves, SomeEntries, SomePairEntries}
use Rattle.jsonb_raw.proofs.functions.operator.traverse.+texts.Given as goal

abbrev pub decreases-any_text_in_item : goal.decreases-any_text_in_item
decreases-any_text_in_item g l = 4 * item_size l.item.now + 2

abbrev pub decreases-search_item_but_largest : goal.decreases-search_item_but_largest
decreases-search_item_but_largest g l = 4 * item_size l.item.now + 1

-- the item that is left decides the whole
abbrev pub invariant-any_text_in_item-loop-told : goal.invariant-any_text_in_item-loop-told
invariant-any_text_in_item-loop-told g l = record {
  shorter : item_size l.left ≤ item_size l.fn.item;
  left : (form : Form) (tree : Tree) → StandsFor form l.fn.item tree
      → (t : Tree) × StandsFor form l.left t × ((b : Bool) → Tells g.F.Fn l.fn.func (texts t) b → Tells g.F.Fn l.fn.func (texts tree) b);
}

abbrev pub decreases-any_text_in_item-loop-told : goal.decreases-any_text_in_item-loop-told
decreases-any_text_in_item-loop-told g l = item_size l.left

abbrev pub decreases-any_text_in_entry : goal.decreases-any_text_in_entry
decreases-any_text_in_entry g l = 4 * length l.entry.now.content.now + 3

abbrev pub decreases-array_tells : goal.decreases-array_tells
decreases-array_tells g l = 4 * length l.bytes.now

abbrev pub decreases-object_tells : goal.decreases-object_tells
decreases-object_tells g l = 4 * length l.bytes.now

-- each call so far returned false, so what is left decides
abbrev pub invariant-array_tells-loop-entry : goal.invariant-array_tells-loop-entry
invariant-array_tells-loop-entry g l = record {
  size : IfSome l.large (λ item. item_size item < length l.fn.bytes);
  room : entries_room l.entry-iterator < length l.fn.bytes;
  left : (form : Form) (ts : Trees) → Decodes form l.fn.bytes (array ts)
      → SomeEntries form l.entry-iterator (λ left. Leaves g.F.Fn l.fn.func form (texts_of_trees ts) (texts_of_trees left) l.large);
}

abbrev pub invariant-object_tells-loop-pair : goal.invariant-object_tells-loop-pair
invariant-object_tells-loop-pair g l = record {
  size : IfSome l.large (λ item. item_size item < length l.fn.bytes);
  room : entries_room l.pair-iterator.values < length l.fn.bytes;
  left : (form : Form) (ps : Pairs) → Decodes form l.fn.bytes (object ps)
      → SomePairEntries form l.pair-iterator (λ left. Leaves g.F.Fn l.fn.func form (texts_of_pairs ps) (texts_of_pairs left) l.large);
}
