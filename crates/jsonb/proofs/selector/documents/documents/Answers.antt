use Rattle.jsonb.proofs.Lemmas.{err_is, refused, made_alone, list_refused, [], ◌∷◌, inl, null, arith}
use Rattle.jsonb.proofs.selector.documents.documents.Goals as goal

pub returns-in-Nodes-clause-documents : goal.returns-in-Nodes-clause-documents
returns-in-Nodes-clause-documents c = λ form top ts decodes h.
    c.spot_documents.ensures.documents form top ts decodes (rw c.as_slice.ensures (rw c.in-Nodes.is at h))

pub returns-in-Numbers-clause-documents : goal.returns-in-Numbers-clause-documents
returns-in-Numbers-clause-documents c = λ form top ts decodes h.
    c.number_documents.ensures.documents form ts (rw c.deref.ensures.value (rw c.in-Numbers.is at h))

pub returns-in_err-made-in-Made-clause-documents : goal.returns-in_err-made-in-Made-clause-documents
returns-in_err-made-in-Made-clause-documents c = λ form top ts decodes h.
    let one = made_alone form c.in-Made.part ts (rw c.in-Made.is at h) in
    rw (err_is c.from_residual.ensures.1, one.1) (refused
    (inl (list_refused form (one.0 ∷ []) 0 null _ (omega arith) (c.in_err-made-in-Made.ensures.document form one.0 one.2))))
