use Rattle.jsonb_raw.proofs.Lemmas.{◌≤◌, ℕ, List, Form, entries_bound, HasTextsLeft}
use Rattle.jsonb_raw.proofs.functions.path.name_block.next_text.Given as goal

-- the strings are still left
abbrev pub invariant-loop-entry : goal.invariant-loop-entry
invariant-loop-entry l = record {
  fewer : entries_bound l.left ≤ entries_bound l.fn.rest;
  texts : (form : Form) (ss : List (List ℕ)) → HasTextsLeft form l.fn.rest ss → HasTextsLeft form l.left ss;
}
