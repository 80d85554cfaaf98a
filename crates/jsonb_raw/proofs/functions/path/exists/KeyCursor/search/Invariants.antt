use Rattle.jsonb_raw.proofs.Lemmas.{◌≡◌, ℕ, List, Form, entries_bound, IsCursorOf, IsPassed}
use Rattle.jsonb_raw.proofs.functions.path.exists.KeyCursor.search.Given as goal

-- the cursor precedes what is looked at next, and the keys it has passed are below the name
abbrev pub invariant-loop-entry : goal.invariant-loop-entry
invariant-loop-entry l = record {
  ahead : l.ahead ≡ l.self.left;
  passed : IsPassed l.self.last_key l.name;
  cursor : (form : Form) (ks : List (List ℕ)) → IsCursorOf form l.fn.self ks → IsCursorOf form l.self ks;
}

abbrev pub decreases-loop-entry : goal.decreases-loop-entry
decreases-loop-entry l = entries_bound l.ahead
