use Rattle.jsonb_raw.proofs.Lemmas.{◌≡◌, ℕ, List, list_any, Form, entries_bound, HasTextsLeft, is_one_of, contents_of, SomeTexts}
use Rattle.jsonb_raw.proofs.functions.path.name_block.any_among.Given as goal

-- the strings that are left decide
abbrev pub invariant-loop-text : goal.invariant-loop-text
invariant-loop-text l = (form : Form) (ss : List (List ℕ)) → HasTextsLeft form l.fn.entries ss
    → SomeTexts form l.rest (λ left. list_any (is_one_of left) (contents_of l.names) ≡ list_any (is_one_of ss) (contents_of l.names))

abbrev pub decreases-loop-text : goal.decreases-loop-text
decreases-loop-text l = entries_bound l.rest
