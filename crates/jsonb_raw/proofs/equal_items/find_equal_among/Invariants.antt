use Rattle.jsonb_raw.proofs.Lemmas.{◌≡◌, take, list_any, Tree, Trees, elements, is_equal, Form, HasEntriesLeft, Stores, SomeEntries}
use Rattle.jsonb_raw.proofs.equal_items.find_equal_among.Given as goal

-- no entry so far is equal, so the next of those that are left decide
abbrev pub invariant-loop-more : goal.invariant-loop-more
invariant-loop-more l = (form other_form : Form) (ts : Trees) (u : Tree) → HasEntriesLeft form l.fn.found ts → Stores other_form l.wanted u
    → SomeEntries form l.left (λ left. list_any (λ t. is_equal t u) (take l.more (elements left))
    ≡ list_any (λ t. is_equal t u) (take l.fn.count (elements ts)))

abbrev pub decreases-loop-more : goal.decreases-loop-more
decreases-loop-more l = l.more
