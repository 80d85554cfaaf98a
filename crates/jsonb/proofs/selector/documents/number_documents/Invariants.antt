use Rattle.jsonb.proofs.Lemmas.{◌≡◌, ◌≤◌, List, take, vec_len, AllZip, vec_capacity, Decodes, Form, Tree, IsNumberItem}
use Rattle.jsonb.proofs.selector.documents.number_documents.Given as goal

-- the documents so far, with room for the others
abbrev pub invariant-loop-position : goal.invariant-loop-position
invariant-loop-position l = record {
  documents : (form : Form) (ts : List Tree) → AllZip IsNumberItem l.numbers ts
      → AllZip (Decodes form) l.documents.items (take l.position ts);
  len : vec_len l.documents ≤ l.position;
  room : vec_capacity l.documents ≡ l.len;
}
