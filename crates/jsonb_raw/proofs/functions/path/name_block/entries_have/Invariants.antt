use Rattle.jsonb_raw.proofs.Lemmas.{◌≡◌, ℕ, List, Form, entries_bound, HasTextsLeft, is_one_of, SomeTexts}
use Rattle.jsonb_raw.proofs.functions.path.name_block.entries_have.Given as goal

-- the strings that are left decide
abbrev pub invariant-loop-text : goal.invariant-loop-text
invariant-loop-text l = (form : Form) (ss : List (List ℕ)) → HasTextsLeft form l.fn.entries ss
    → SomeTexts form l.rest (λ left. is_one_of left l.name ≡ is_one_of ss l.name)

abbrev pub decreases-loop-text : goal.decreases-loop-text
decreases-loop-text l = entries_bound l.rest
