use Rattle.jsonb.proofs.Lemmas.{[], List, drop, AllZip, Decodes, Form, Tree, Locates, array_of}
use Rattle.jsonb_doc.specs.Private.Writer.{IsWriting}
use Rattle.jsonb.proofs.selector.documents.spots_array.Given as goal

-- the trees that are left come next
abbrev pub invariant-loop-spot : goal.invariant-loop-spot
invariant-loop-spot l = (form : Form) (top : Tree) (ts : List Tree) → Decodes form l.bytes top → AllZip (Locates l.bytes) l.spots ts
    → IsWriting form l.writer (drop l.spot-index ts) [] (array_of ts)
