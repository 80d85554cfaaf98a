use Rattle.jsonb_raw.proofs.Lemmas.{◌≡◌, ◌+◌, ◌-◌, ◌<◌, ◌≤◌, true, false, length, take, drop, list_any, Tree, Trees, elements, is_equal, Form, HasEntriesLeft, entries_bound, IsIn, SomeEntries}
use Rattle.jsonb_raw.proofs.functions.array.overlap.take_hashes.Given as goal

-- what equals one of the entries taken has a hash in the set
abbrev pub invariant-loop-block : goal.invariant-loop-block
invariant-loop-block l = record {
  some : 0 < l.limit;
  few : l.block.count ≤ l.limit;
  more : l.block.is_last ≡ false;
  words : length l.words ≡ length l.fn.words;
  fewer : entries_bound l.left + l.block.count ≤ entries_bound l.fn.rest;
  left : (form : Form) (us : Trees) → HasEntriesLeft form l.fn.rest us
      → SomeEntries form l.left (λ left. (elements left ≡ drop l.block.count (elements us))
      × ((t : Tree) → list_any (is_equal t) (take l.block.count (elements us)) ≡ true → l.block.is_open ≡ false → IsIn l.words t));
}

abbrev pub decreases-loop-block : goal.decreases-loop-block
decreases-loop-block l = l.limit - l.block.count
