use Rattle.jsonb_raw.proofs.Lemmas.{◌≡◌, true, length, ℕ, List, Form, entries_bound, HasTextsLeft, is_one_of, AreSeen, SomeTexts}
use Rattle.jsonb_raw.proofs.functions.path.name_block.mark_seen.Given as goal

-- what was seen, and what is left, is among the strings
abbrev pub invariant-loop-text : goal.invariant-loop-text
invariant-loop-text l = record {
  length : length l.seen ≡ length l.fn.seen;
  seen : (form : Form) (ss : List (List ℕ)) → HasTextsLeft form l.fn.entries ss → AreSeen ss l.names l.fn.seen → AreSeen ss l.names l.seen;
  left : (form : Form) (ss : List (List ℕ)) → HasTextsLeft form l.fn.entries ss
      → SomeTexts form l.rest (λ left. (name : List ℕ) → is_one_of left name ≡ true → is_one_of ss name ≡ true);
}

abbrev pub decreases-loop-text : goal.decreases-loop-text
decreases-loop-text l = entries_bound l.rest
