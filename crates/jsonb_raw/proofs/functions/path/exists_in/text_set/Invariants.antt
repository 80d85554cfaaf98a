use Rattle.jsonb_raw.proofs.Lemmas.{◌≡◌, ◌||◌, ℕ, List, Form, entries_bound, is_in, HasTextsLeft, is_one_of, SomeTexts}
use Rattle.jsonb_raw.proofs.functions.path.exists_in.text_set.Given as goal

-- a string is in the set or one of those that are left if and only if it is one of all
abbrev pub invariant-loop-table : goal.invariant-loop-table
invariant-loop-table l = (form : Form) (ss : List (List ℕ)) → HasTextsLeft form l.fn.entries ss
    → SomeTexts form l.rest (λ left. (q : List ℕ) → (is_in l.table q || is_one_of left q) ≡ is_one_of ss q)

abbrev pub decreases-loop-table : goal.decreases-loop-table
decreases-loop-table l = entries_bound l.rest
