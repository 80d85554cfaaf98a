-- The children of a document one by one.
use Rattle.std.specs.Prelude.{ℕ, List, Option, Result, IsOkAnd}
use Rattle.jsonb_doc.specs.Representation.Positions.{HasChildrenLeft}
use Rattle.jsonb_doc.specs.ChildPositions.{TakesChild}
use Rattle.jsonb_doc.specs.Format.{Decodes}
use Rattle.jsonb_doc.specs.Payload.{Form}
use Rattle.jsonb_doc.specs.Tree.{Tree}
use Rattle.jsonb_doc.specs.declared.child_positions.Child.{Child}
use Rattle.jsonb_doc.specs.declared.child_positions.ChildPositions.{ChildPositions}
use Rattle.jsonb_doc.specs.declared.error.Error.{Error}
use Rattle.jsonb_c.specs.Spans.{IsSpanOf}
use Rattle.jsonb_c.specs.declared.span.Span.{Span}

-- Holds if the result is the spans of the first of the children that the cursor has left, and the others remain.
abbrev pub TakesSpans : List ℕ → ChildPositions → Result (Option (Child Span)) Error → ChildPositions → Type 0
TakesSpans document before answer after = (form : Form) (top t : Tree) → Decodes form document top
    → HasChildrenLeft document before t
    → IsOkAnd answer (λ found. TakesChild (IsSpanOf form document) document t found after)
