use Rattle.jsonb_raw.proofs.Lemmas.{List, length, Tree, Form, Decodes, HoldTrees, Made, All, IsWhole}
use Rattle.jsonb_raw.proofs.functions.array.entry_documents.Given as goal

-- the documents that were made, followed by the entries that are left, are the whole
abbrev pub invariant-loop-documents : goal.invariant-loop-documents
invariant-loop-documents l = record {
  whole : All IsWhole l.documents.items;
  made : (form : Form) (ts : List Tree) → HoldTrees form l.entries ts
      → (others : List Tree) × HoldTrees form l.left others × Made (Decodes form) l.documents.items others ts;
}

abbrev pub decreases-loop-documents : goal.decreases-loop-documents
decreases-loop-documents l = length l.left.words.now
