use Rattle.jsonb.proofs.Lemmas.{err_is, made_alone}
use Rattle.jsonb.proofs.selector.documents.array_document.Goals.{in-Nodes+in_ok-array-in-Nodes, in-Numbers+in_ok-array-in-Numbers, in-Made+in_ok-array-in-Made}
use Rattle.jsonb.proofs.selector.documents.array_document.Goals as goal

pub returns-in_err-array-in-Nodes-clause-document : goal.returns-in_err-array-in-Nodes-clause-document
returns-in_err-array-in-Nodes-clause-document c = λ form top ts decodes h.
    rw (err_is c.from_residual.ensures.1) (c.in_err-array-in-Nodes.ensures.document form top ts decodes
    (rw c.as_slice.ensures (rw c.in-Nodes.is at h)))

pub returns-clause-document : goal.returns-clause-document
returns-clause-document c = λ form top ts decodes h. elim c.match-selected.branch [
  | in-Nodes+in_ok-array-in-Nodes w ↦
      rw (c.new.ensures, w.array-is) (w.in_ok-array-in-Nodes.ensures.document form top ts decodes (rw w.as_slice.ensures (rw w.in-Nodes.is at h)))
  | in-Numbers+in_ok-array-in-Numbers w ↦
      rw (c.new.ensures, w.array-is) (w.in_ok-array-in-Numbers.ensures.document form ts (rw w.deref.ensures.value (rw w.in-Numbers.is at h)))
  | in-Made+in_ok-array-in-Made w ↦
      let one = made_alone form w.in-Made.part ts (rw w.in-Made.is at h) in
      rw (c.new.ensures, w.array-is, one.1) (w.in_ok-array-in-Made.ensures.document form one.0 one.2)
]
