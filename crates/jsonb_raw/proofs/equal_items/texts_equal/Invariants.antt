use Rattle.jsonb_raw.proofs.Lemmas.{◌≡◌, ℕ, List, are_equal, Form, HasEntriesLeft, key_trees, SomeEntries, AreTexts}
use Rattle.jsonb_raw.proofs.equal_items.texts_equal.Given as goal

-- what is left of both decides what all decides
abbrev pub invariant-loop-entry : goal.invariant-loop-entry
invariant-loop-entry l = (form other_form : Form) (ks ls : List (List ℕ)) → HasEntriesLeft form l.fn.found (key_trees ks) → HasEntriesLeft other_form l.fn.others (key_trees ls)
    → SomeEntries form l.entry-iterator
    (λ left. AreTexts left × SomeEntries other_form l.rest (λ right. AreTexts right × (are_equal left right ≡ are_equal (key_trees ks) (key_trees ls))))
