use Rattle.jsonb_raw.proofs.Lemmas.{◌≡◌, list_any, Tree, Trees, elements, is_equal, Form, HasEntriesLeft, Stores, entries_bound, PassesOver, SomeEntries}
use Rattle.jsonb_raw.proofs.equal_items.find_equal.Given as goal

-- no entry so far is equal, so those that are left decide
abbrev pub invariant-loop-entry : goal.invariant-loop-entry
invariant-loop-entry l = record {
  passed : PassesOver l.fn.found l.left;
  left : (form other_form : Form) (ts : Trees) (u : Tree) → HasEntriesLeft form l.fn.found ts → Stores other_form l.wanted u
      → SomeEntries form l.left (λ left. list_any (λ t. is_equal t u) (elements left) ≡ list_any (λ t. is_equal t u) (elements ts));
}

abbrev pub decreases-loop-entry : goal.decreases-loop-entry
decreases-loop-entry l = entries_bound l.left
