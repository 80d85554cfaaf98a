-- The span of the first item that a JSON path selects.
use Rattle.std.specs.Prelude.{◌≡◌, ℕ, List, Option, Some, None, Result, Ok, Err}
use Rattle.jsonb_doc.specs.Answer.{Refines, SameOption, IsOutOfMemory}
use Rattle.jsonb_doc.specs.declared.error.Error.{Error}
use Rattle.jsonb.specs.FirstItems.{IsFirstItem}
use Rattle.jsonb.specs.PathTree.{Step, is_predicate}
use Rattle.jsonb.specs.SelectorAnswers.{ByMeanings, first_item}
use Rattle.jsonb.specs.declared.selector.document.Mode.{Mode}
use Rattle.jsonb.specs.declared.selector.first_item.FirstItem.{FirstItem}
use Rattle.jsonb.specs.declared.selector.first_item.FirstItem.TheVariants as item
use Rattle.jsonb_c.specs.Answers.{ShowsNothing}
use Rattle.jsonb_c.specs.Spans.{IsSpanOf}
use Rattle.jsonb_c.specs.Status.{code}
use Rattle.jsonb_c.specs.declared.status.Status.TheVariants.{Absent, Answered, Computed, Refused}
use Rattle.jsonb_c.specs.declared.span.Span.{Span}

-- Holds if the result is the span of the first item, or says that the path is an expression, which computes it.
abbrev pub FindsFirstSpan : Mode → List ℕ → List Step → Result (Option (FirstItem Span)) Error → Type 0
FindsFirstSpan mode document path = ByMeanings mode document path (λ form outcome answer. Refines
    (λ found ts. SameOption (IsFirstItem (IsSpanOf form document) (is_predicate path)) found (first_item ts))
    IsOutOfMemory answer outcome)

-- Holds if the span is delivered; the caller's is unchanged if there is none, the item is computed, or the call fails.
abbrev pub ShowsFirst : Span → Span → ℕ → Result (Option (FirstItem Span)) Error → Type 0
ShowsFirst old new status (Ok (Some (item.At span))) = (new ≡ span) × (status ≡ code Answered)
ShowsFirst old new status (Ok (Some item.Computed)) = ShowsNothing old new status Computed
ShowsFirst old new status (Ok None) = ShowsNothing old new status Absent
ShowsFirst old new status (Err e) = ShowsNothing old new status (Refused e)
