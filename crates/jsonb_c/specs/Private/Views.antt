-- What the values of private functions stand for, and spans within the bytes.
use Rattle.std.specs.Prelude.{◌≡◌, ℕ, List, Option, Some, None, Result, Ok, Err, Vec, IfSome, MatchResult, ⊤}
use Rattle.std.specs.Borrow.{Bor}
use Rattle.std.specs.declared.alloc.Global.{Global}
use Rattle.jsonb_doc.specs.declared.error.Error.{Error}
use Rattle.jsonb_doc.specs.declared.event_error.EventError.{EventError}
use Rattle.jsonb_doc.specs.declared.error.Error.TheVariants.{InvalidJsonPath}
use Rattle.jsonb_doc.specs.Answer.{IsOutOfMemory}
use Rattle.jsonb_doc.specs.Depth.{deepest}
use Rattle.jsonb_doc.specs.Tree.{Tree}
use Rattle.jsonb_raw.specs.EqualityKey.{equality_key}
use Rattle.jsonb_raw.specs.KeyAnswer.{GivesKey}
use Rattle.jsonb_raw.specs.SortableKey.{sortable_key}
use Rattle.jsonb.specs.SelectorAnswers.{first_item, single_or_array}
use Rattle.jsonb_c.specs.Answers.{Found, OfDocument, Shows, ShowsAs, ShowsValue, truth_byte}
use Rattle.jsonb_c.specs.Calls.{DeletesPart, FindsPart, TellsExistence, TellsTruth, one_array}
use Rattle.jsonb.specs.KeyPathGrammar.{Key}
use Rattle.jsonb.specs.PathTree.{Step}
use Rattle.jsonb.specs.declared.selector.document.Mode.{Mode}
use Rattle.std.specs.Int.{Width, from_bool}
use Rattle.jsonb_c.specs.declared.column.documents.Operation.{Operation}
use Rattle.jsonb_c.specs.declared.column.documents.Operation.TheVariants.{Part, Rest}
use Rattle.jsonb_c.specs.declared.column.truths.Question.{Question}
use Rattle.jsonb_c.specs.declared.column.truths.Question.TheVariants.{Existence, Truth}
use Rattle.jsonb_c.specs.declared.document.select.Pick.{Pick}
use Rattle.jsonb_c.specs.declared.document.select.Pick.TheVariants.{First, Value, Array}
use Rattle.jsonb_c.specs.declared.read.KeyValue.{KeyValue}
use Rattle.jsonb_c.specs.declared.status.Status.{Status}
use Rattle.jsonb_c.specs.declared.status.Status.TheVariants.{NotJsonPath, Refused}
use Rattle.jsonb_doc.specs.declared.child_positions.Child.{Child}
use Rattle.jsonb.specs.declared.selector.first_item.FirstItem.{FirstItem}
use Rattle.jsonb.specs.declared.selector.first_item.FirstItem.TheVariants.{At, Computed}
use Rattle.jsonb_c.specs.Spans.{IsWithin}
use Rattle.jsonb_c.specs.declared.span.Span.{Span}

-- the bytes of a vector, or the error
abbrev pub vec_answer : Result (Vec ℕ Global) Error → Result (List ℕ) Error
vec_answer (Ok made) = Ok made.items
vec_answer (Err e) = Err e

-- likewise, of the events of a list
abbrev pub list_answer : Result (Vec ℕ Global) EventError → Result (List ℕ) EventError
list_answer (Ok made) = Ok made.items
list_answer (Err e) = Err e

abbrev pub found_text : Result (Option (Bor (List ℕ))) Error → Found (List ℕ)
found_text (Ok (Some found)) = Ok (Some found.now)
found_text (Ok None) = Ok None
found_text (Err e) = Err e

-- the result is the sortable key of the document
abbrev pub IsSortableKeyOf : Width → List ℕ → Result (List ℕ) Error → Type 0
IsSortableKeyOf w document answer =
    OfDocument document (λ form t made. GivesKey w (deepest t) made (λ bytes. bytes ≡ sortable_key w t 0)) answer

-- the result is the equality key of the document
abbrev pub IsEqualityKeyOf : List ℕ → Result (List ℕ) Error → Type 0
IsEqualityKeyOf document answer =
    OfDocument document (λ form t made. MatchResult made (λ bytes. bytes ≡ equality_key t) IsOutOfMemory) answer

-- which document is made of the items
abbrev pub pick_of : Pick → List Tree → Option Tree
pick_of First = first_item
pick_of Value = single_or_array
pick_of Array = one_array

-- whether the path selects an item, or its result as a predicate
abbrev pub told : Question → Mode → List Step → List ℕ → ℕ → ℕ → ℕ → Type 0
told Existence mode path = λ document old new status.
    TellsExistence mode path document (ShowsAs from_bool old new status)
told Truth mode path = λ document old new status.
    TellsTruth mode path document (ShowsAs truth_byte old new status)

-- the value at the location of the steps, or the document without it
abbrev pub place_of : Operation → List Key → List ℕ → List ℕ → List ℕ → ℕ → Type 0
place_of Part steps = λ document old new status. FindsPart steps document (Shows old new status)
place_of Rest steps = λ document old new status. DeletesPart steps document (ShowsValue old new status)

abbrev pub pair_answer : Result (Option KeyValue) Error → Result (Option (List ℕ × List ℕ)) Error
pair_answer (Ok (Some found)) = Ok (Some (found.key.now, found.value.items))
pair_answer (Ok None) = Ok None
pair_answer (Err e) = Err e

-- the status of an error of parsing
abbrev pub text_refusal : Error → Status
text_refusal InvalidJsonPath = NotJsonPath
text_refusal e = Refused e

-- the item is computed, or its span is within the bytes
abbrev pub IsFirstWithin : List ℕ → FirstItem Span → Type 0
IsFirstWithin document (At span) = IsWithin document span
IsFirstWithin document Computed = ⊤

-- the child's span, and that of its key if it has one, are within the bytes
abbrev pub IsChildWithin : List ℕ → Child Span → Type 0
IsChildWithin document child = IsWithin document child.value × IfSome child.key (IsWithin document)
