-- Items that a handle keeps, delivered one at a time.
use Rattle.std.specs.Prelude.{◌≡◌, ◌⊎◌, ℕ, Bool, true, false, List, ◌∷◌, drop, Option, option_map, Result, IsOkAnd}
use Rattle.std.specs.List.{AllZip}
use Rattle.jsonb_doc.specs.Answer.{SameOption}
use Rattle.jsonb_doc.specs.declared.error.Error.{Error}
use Rattle.jsonb_doc.specs.Format.{Decodes}
use Rattle.jsonb_doc.specs.Payload.{Form}
use Rattle.jsonb_doc.specs.Tree.{Tree}
use Rattle.jsonb_raw.specs.Documents.{MakesOption}
use Rattle.jsonb.specs.FirstItems.{IsFirstItem}
use Rattle.jsonb.specs.FoundItems.{IsItemOf}
use Rattle.jsonb.specs.SelectorAnswers.{first_item}
use Rattle.jsonb.specs.declared.selector.first_item.FirstItem.{FirstItem}
use Rattle.jsonb.specs.declared.selector.found.FoundItem.{FoundItem}
use Rattle.jsonb.specs.declared.selector.found.FoundItem.TheVariants.{At}
use Rattle.jsonb_c.specs.Answers.{Found}
use Rattle.jsonb_c.specs.Representation.Prepared.{items_left}
use Rattle.jsonb_c.specs.Spans.{IsSpanOf}
use Rattle.jsonb_c.specs.Status.{code}
use Rattle.jsonb_c.specs.declared.status.Status.TheVariants.{Answered}
use Rattle.jsonb_c.specs.declared.prepared.path.PreparedPath.{PreparedPath}
use Rattle.jsonb_c.specs.declared.span.Span.{Span}

-- Holds if the result is a document of the first of the items, or `None` if there is none.
abbrev pub IsNextOf : List ℕ → List FoundItem → Found (List ℕ) → Type 0
IsNextOf document left answer = (form : Form) (top : Tree) (ts : List Tree) → Decodes form document top
    → AllZip (IsItemOf document form) left ts → MakesOption form (first_item ts) answer

-- Whether the first item is computed. Otherwise it is in the document.
abbrev pub is_first_computed : List FoundItem → Bool
is_first_computed (At spot ∷ left) = false
is_first_computed _ = true

-- Holds if the result is the span of the first of the items, or says that it is computed; `None` if there is none.
abbrev pub IsNextSpan : List ℕ → List FoundItem → Result (Option (FirstItem Span)) Error → Type 0
IsNextSpan document left answer = (form : Form) (top : Tree) (ts : List Tree) → Decodes form document top
    → AllZip (IsItemOf document form) left ts → IsOkAnd answer
    (λ found. SameOption (IsFirstItem (IsSpanOf form document) (is_first_computed left)) found (first_item ts))

-- Holds if the first item is removed if it was delivered; otherwise the handle is unchanged.
abbrev pub LeavesItems : ℕ → Option PreparedPath → Option PreparedPath → Type 0
LeavesItems status old new = ((status ≡ code Answered) × (items_left new ≡ option_map (drop 1) (items_left old)))
    ⊎ ((status ≡ code Answered → ⊥) × (new ≡ old))
