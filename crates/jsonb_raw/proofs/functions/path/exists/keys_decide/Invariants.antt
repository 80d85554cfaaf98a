use Rattle.std.specs.Iterator.{EndsFrom, items_left}
use Rattle.jsonb_raw.proofs.Lemmas.{◌≡◌, ℕ, List, Pairs, object, keys, Form, AreKeys, HasEntriesLeft, key_trees, IsCursorOf, has_by, YieldsItemsLeft}
use Rattle.jsonb_raw.proofs.functions.path.exists.keys_decide.Given as goal

-- the names that are left decide
abbrev pub invariant-loop-name : goal.invariant-loop-name
invariant-loop-name g l = record {
  can : g.I.Iterator.can_next l.rest;
  finite : EndsFrom g.I.Iterator.remaining l.rest;
  cursor : (form : Form) (ks : List (List ℕ)) → AreKeys ks → HasEntriesLeft form l.keys (key_trees ks) → IsCursorOf form l.cursor ks;
  left : (left : _ → List (List ℕ)) → YieldsItemsLeft g.I.Iterator.next_gives left → (form : Form) (ps : Pairs)
      → AreKeys (keys ps) → HasEntriesLeft form l.keys (key_trees (keys ps)) → has_by l.found (left l.rest) (object ps) ≡ has_by l.found (left l.fn.names) (object ps);
}

abbrev pub decreases-loop-name : goal.decreases-loop-name
decreases-loop-name g l = items_left g.I.Iterator.remaining l.rest
