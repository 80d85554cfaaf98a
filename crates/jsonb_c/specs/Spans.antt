-- Spans of values within a document.
use Rattle.std.specs.Prelude.{◌+◌, ◌≤◌, ℕ, List, length, slice_range, Option, Result, IsOkAnd, MatchResult}
use Rattle.jsonb_doc.specs.Answer.{SameOption, IsOutOfMemory}
use Rattle.jsonb_doc.specs.Format.{IsContent}
use Rattle.jsonb_doc.specs.Payload.{Form, number_reader}
use Rattle.jsonb_doc.specs.Tree.{Tree}
use Rattle.jsonb_doc.specs.declared.error.Error.{Error}
use Rattle.jsonb_raw.specs.Places.{tree_at_steps}
use Rattle.jsonb.specs.KeyPathGrammar.{Key}
use Rattle.jsonb_c.specs.Answers.{OfDocument}
use Rattle.jsonb_c.specs.Kinds.{IsTypeOf}
use Rattle.jsonb_c.specs.declared.span.Span.{Span}

-- Holds if the span is within the bytes.
abbrev pub IsWithin : List ℕ → Span → Type 0
IsWithin document span = span.at + span.len ≤ length document

-- Holds if the span is that of the tree: its type, and the entry type and the position of its content.
pub record IsSpanOf (form : Form) (document : List ℕ) (span : Span) (t : Tree) : Type 0 where
  pub kind : IsTypeOf t span.kind
  pub within : IsWithin document span
  pub content : IsContent (number_reader form) t span.entry (slice_range document span.at (span.at + span.len))

-- Holds if the result is the span of the value, or `None` if there is none.
abbrev pub HasSpan : List ℕ → Form → Option Tree → Result (Option Span) Error → Type 0
HasSpan document form wanted answer = IsOkAnd answer (λ found. SameOption (IsSpanOf form document) found wanted)

-- Holds if the result is the span of the value at the steps, or `None` if there is none.
abbrev pub FindsSpan : List Key → List ℕ → Result (Option Span) Error → Type 0
FindsSpan steps document = OfDocument document (λ form t answer. MatchResult answer
    (λ found. SameOption (IsSpanOf form document) found (tree_at_steps steps t)) IsOutOfMemory)
