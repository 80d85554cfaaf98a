use Rattle.jsonb.proofs.Lemmas.{◌≡◌, ◌≤◌, List, take, vec_len, AllZip, vec_capacity, Form, Tree, AreSelected, IsItemOf}
use Rattle.jsonb.proofs.selector.found.found_items.Given as goal

-- the items so far, with room for the others
abbrev pub invariant-loop-position : goal.invariant-loop-position
invariant-loop-position l = record {
  items : (form : Form) (ts : List Tree) → AreSelected form l.document l.selected ts
      → AllZip (IsItemOf l.document.bytes.now form) l.found.items (take l.position ts);
  len : vec_len l.found ≤ l.position;
  room : vec_capacity l.found ≡ l.len;
}
