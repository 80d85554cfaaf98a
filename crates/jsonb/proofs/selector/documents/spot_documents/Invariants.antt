use Rattle.jsonb.proofs.Lemmas.{◌≡◌, ◌≤◌, List, take, vec_len, AllZip, vec_capacity, Decodes, Form, Tree, Locates}
use Rattle.jsonb.proofs.selector.documents.spot_documents.Given as goal

-- the documents so far, with room for the others
abbrev pub invariant-loop-position : goal.invariant-loop-position
invariant-loop-position l = record {
  documents : (form : Form) (top : Tree) (ts : List Tree) → Decodes form l.bytes top → AllZip (Locates l.bytes) l.spots ts
      → AllZip (Decodes form) l.documents.items (take l.position ts);
  len : vec_len l.documents ≤ l.position;
  room : vec_capacity l.documents ≡ l.len;
}
