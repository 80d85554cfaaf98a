use Rattle.jsonb_raw.proofs.Lemmas.{◌≡◌, ℕ, ◌<◌, ◌≤◌, ◌+◌, ◌*◌, ◌||◌, Bool, true, length, take, IfSome, list_any, Tree, Trees, Pairs, array, object, keys, elements, members, Form, Decodes, StandsFor, item_size, HasEntriesLeft, Stores, entries_room, AreRising, is_part_of, each_is_matched, each_pair_is_matched, IsOneAnswer, IsTailOf, HasTableOf, AllByRecursion, Fits, matches, scalars_matched, SomeEntries, SomePairEntries, Aside, IsAnswer, IsItemAnswer, OneAside}
use Rattle.jsonb_raw.proofs.functions.operator.contains.+contains.Given as goal

abbrev pub decreases-item_matches : goal.decreases-item_matches
decreases-item_matches l = 8 * (item_size l.item.now + item_size l.wanted.now) + 4

abbrev pub decreases-parts_match : goal.decreases-parts_match
decreases-parts_match l = 8 * (item_size l.item.now + item_size l.wanted.now) + 3

abbrev pub decreases-array_contains : goal.decreases-array_contains
decreases-array_contains l = 8 * (length l.bytes.now + length l.others.now) + 2

abbrev pub decreases-object_contains : goal.decreases-object_contains
decreases-object_contains l = 8 * (length l.bytes.now + length l.others.now) + 2

abbrev pub decreases-container_match : goal.decreases-container_match
decreases-container_match l = 8 * (entries_room l.all + length l.wanted.now.content.now) + 9

abbrev pub decreases-find_match : goal.decreases-find_match
decreases-find_match l = 8 * (entries_room l.part.entries + length l.wanted.now.content.now) + 8

abbrev pub decreases-entry_matches : goal.decreases-entry_matches
decreases-entry_matches l = 8 * (length l.entry.now.content.now + length l.wanted.now.content.now) + 7

-- the parts that are left decide the whole
abbrev pub invariant-item_matches-loop-answer : goal.invariant-item_matches-loop-answer
invariant-item_matches-loop-answer l = record {
  shorter : item_size l.left + item_size l.right ≤ item_size l.fn.item + item_size l.fn.wanted;
  left : (form other_form : Form) (x y : Tree) → StandsFor form l.fn.item x → StandsFor other_form l.fn.wanted y
      → (t : Tree) × (u : Tree) × StandsFor form l.left t × StandsFor other_form l.right u × (matches t u ≡ matches x y);
}

abbrev pub decreases-item_matches-loop-answer : goal.decreases-item_matches-loop-answer
decreases-item_matches-loop-answer l = item_size l.left + item_size l.right

-- the given elements that are left decide, with the pair that was put aside
abbrev pub invariant-array_contains-loop-wanted : goal.invariant-array_contains-loop-wanted
invariant-array_contains-loop-wanted l = record {
  tail : IsTailOf l.all l.last.left;
  table : HasTableOf l.all l.table.table;
  room : entries_room l.wanted-iterator < length l.fn.others;
  size : IfSome l.large (λ pair. (item_size pair.0 < length l.fn.bytes) × (item_size pair.1 < length l.fn.others));
  left : (form other_form : Form) (xs ys : Trees) → Decodes form l.fn.bytes (array xs) → Decodes other_form l.fn.others (array ys)
      → SomeEntries other_form l.wanted-iterator
      (λ left. AllByRecursion Fits (elements left) × (scalars_matched left (elements xs) ≡ true)
      × Aside (IsItemAnswer matches form other_form l.large) (each_is_matched left (elements xs)) (each_is_matched ys (elements xs)));
}

-- the next of the entries that are left decide, with the one that was put aside
abbrev pub invariant-find_match-loop-more : goal.invariant-find_match-loop-more
invariant-find_match-loop-more l = record {
  tail : IsTailOf l.fn.part.entries l.rest;
  room : (most : ℕ) → entries_room l.fn.part.entries ≤ most → IfSome l.fn.large (λ entry. length entry.content.now ≤ most)
      → IfSome l.large (λ entry. length entry.content.now ≤ most);
  left : (form other_form : Form) (xs : Trees) (y : Tree) (b : Bool) → HasEntriesLeft form l.fn.part.entries xs → Stores other_form l.fn.wanted y
      → IsOneAnswer (is_part_of y) form l.fn.large b
      → SomeEntries form l.rest (λ left. OneAside (IsOneAnswer (is_part_of y) form l.large) (list_any (is_part_of y) (take l.more (elements left)))
      (list_any (is_part_of y) (take l.fn.part.count (elements xs)) || b));
}

abbrev pub decreases-find_match-loop-more : goal.decreases-find_match-loop-more
decreases-find_match-loop-more l = l.more

-- the given pairs that are left decide, by the pairs that are left, with the pair of values that was put aside
abbrev pub invariant-object_contains-loop-pair : goal.invariant-object_contains-loop-pair
invariant-object_contains-loop-pair l = record {
  room : entries_room l.pair-iterator.values < length l.fn.others;
  room_left : entries_room l.left.values < length l.fn.bytes;
  size : IfSome l.large (λ pair. (length pair.0.content.now < length l.fn.bytes) × (length pair.1.content.now < length l.fn.others));
  left : (form other_form : Form) (ps qs : Pairs) → Decodes form l.fn.bytes (object ps) → Decodes other_form l.fn.others (object qs)
      → SomePairEntries other_form l.pair-iterator (λ wanted. AreRising (keys wanted)
      × SomePairEntries form l.left
      (λ left. Aside (IsAnswer matches form other_form l.large) (each_pair_is_matched wanted (members left)) (each_pair_is_matched qs (members ps))));
}
