use Rattle.jsonb_raw.proofs.Lemmas.{◌≡◌, ℕ, List, Form, IsCursorOf, IsWithinAll, IsTableOf}
use Rattle.jsonb_raw.proofs.functions.path.exists.KeyTable.fill.Given as goal

-- the next block begins at the cursor
abbrev pub invariant-loop-block : goal.invariant-loop-block
invariant-loop-block l = record {
  all : l.cursor.all ≡ l.self.all;
  within : IsWithinAll l.cursor;
  cursor : (form : Form) (ks : List (List ℕ)) → IsTableOf form l.fn.self ks → IsCursorOf form l.cursor ks;
  table : (form : Form) (ks : List (List ℕ)) → IsTableOf form l.fn.self ks → IsTableOf form l.self ks;
}
