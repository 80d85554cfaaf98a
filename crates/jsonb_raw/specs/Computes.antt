-- The result of a function on one document that depends on the document's tree only.
use Rattle.std.specs.Prelude.{◌≡◌, ℕ, List, Result, IsOkAnd}
use Rattle.jsonb_doc.specs.Tree.{Tree}
use Rattle.jsonb_doc.specs.Payload.{Form}
use Rattle.jsonb_doc.specs.Format.{Decodes}
use Rattle.jsonb_doc.specs.declared.error.Error.{Error}

-- Holds if the call succeeds with this value of any tree that the bytes decode to.
abbrev pub Computes : {A : Type 0} → (Tree → A) → List ℕ → Result A Error → Type 0
Computes f bytes answer = (form : Form) (tree : Tree) → Decodes form bytes tree → IsOkAnd answer (λ x. x ≡ f tree)
