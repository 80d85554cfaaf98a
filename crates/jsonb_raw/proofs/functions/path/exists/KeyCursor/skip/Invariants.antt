use Rattle.jsonb_raw.proofs.Lemmas.{◌≡◌, ℕ, List, Form, IsCursorOf, IsWithinAll}
use Rattle.jsonb_raw.proofs.functions.path.exists.KeyCursor.skip.Given as goal

-- the keys that it has passed are among all
abbrev pub invariant-keys : goal.invariant-keys
invariant-keys l = record {
  ahead : l.ahead ≡ l.self.left;
  all : l.self.all ≡ l.fn.self.all;
  cursor : (form : Form) (ks : List (List ℕ)) → IsCursorOf form l.fn.self ks → IsCursorOf form l.self ks;
  within : IsWithinAll l.fn.self → IsWithinAll l.self;
}
