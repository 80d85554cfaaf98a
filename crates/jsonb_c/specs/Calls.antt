-- Results of the functions on one document.
use Rattle.std.specs.Prelude.{◌≡◌, ◌⊎◌, ◌↔◌, ◌||◌, not, ℕ, ℤ, Bool, false, IsTrue, IsOkAnd, List, length, Option, Some, None, Result, Ok, Err, String, MatchResult, MatchOption, FitsSigned, if◌then◌else◌}
use Rattle.std.specs.declared.alloc.Global.{Global}
use Rattle.std.specs.Int.{Width, w8, w16, w64}
use Rattle.jsonb_doc.specs.declared.error.Error.{Error}
use Rattle.jsonb_doc.specs.declared.error.Error.TheVariants.{OutOfMemory, InvalidJsonb, UnsupportedNumber, InvalidCast, InvalidJsonType, InvalidObject, ObjectDuplicateKey, TooDeep, TooLarge}
use Rattle.jsonb_doc.specs.Tree.{Tree, Trees, array, elements, trees_of}
use Rattle.jsonb_doc.specs.Payload.{Form, any}
use Rattle.jsonb_doc.specs.Format.{Decodes}
use Rattle.jsonb_doc.specs.AnyBytes.Unsupported.{IsUnsupportedDocument, IsNoDocument}
use Rattle.jsonb_doc.specs.Answer.{Outcome, IsDecodingError, IsOutOfMemory, ◌or◌}
use Rattle.jsonb_raw.specs.Casts.{Casts, IsSignedOf, CastsToText, text_of}
use Rattle.jsonb_raw.specs.Children.{without_index}
use Rattle.jsonb_raw.specs.Contains.{contains}
use Rattle.jsonb_raw.specs.Deletes.{MeetNoPart, without}
use Rattle.jsonb_raw.specs.Documents.{Makes, MakesOption}
use Rattle.jsonb_raw.specs.Scalars.{IsWholeNumber, is_json_scalar}
use Rattle.jsonb_raw.specs.Objects.{has_name, object_insert}
use Rattle.jsonb.specs.KeyPathGrammar.{Key}
use Rattle.jsonb_raw.specs.Places.{index_position, tree_at_steps}
use Rattle.jsonb_doc.specs.Depth.{deepest}
use Rattle.jsonb_raw.specs.EqualityKey.{equality_key}
use Rattle.jsonb_raw.specs.SortableKey.{sortable_key}
use Rattle.jsonb_raw.specs.KeyAnswer.{GivesKey}
use Rattle.jsonb.specs.PathTree.{Step}
use Rattle.jsonb.specs.SelectionErrors.{IsSelectionError}
use Rattle.jsonb.specs.Compare.{Truth}
use Rattle.jsonb.specs.SelectorAnswers.{ByMeanings, IsFound, IsPicked, IsTruthOf}
use Rattle.jsonb.specs.declared.selector.document.Mode.{Mode}
use Rattle.jsonb.specs.declared.selector.document.Mode.TheVariants.{Lax, Strict}
use Rattle.jsonb_c.specs.Status.{code}
use Rattle.jsonb_c.specs.declared.status.Status.TheVariants.{Answered, Refused}
use Rattle.jsonb_c.specs.Answers.{Found, OfDocument, WritesResult}

-- ---- parts

-- Holds if the result is a document of the value. If there is none, it is `None`, which cannot fail.
abbrev pub Finds : Form → Option Tree → Found (List ℕ) → Type 0
Finds form wanted answer = MakesOption form wanted answer × (wanted ≡ None → answer ≡ Ok None)

-- ---- edits

-- Holds if the result is a document of what is built; if there is nothing, this error.
abbrev pub MakesOr : Error → Form → Option Tree → Result (List ℕ) Error → Type 0
MakesOr refusal form wanted answer = MatchOption wanted (answer ≡ Err refusal) (λ t. Makes form t answer)

-- Holds if the result is the document without the element that the index denotes. If it denotes none, the bytes are the
-- same.
pub record DeletesIndex (index : ℤ) (document : List ℕ) (answer : Result (List ℕ) Error) : Type 0 where
  pub deleted : OfDocument document (λ form t. MakesOr InvalidJsonType form (without_index index t)) answer
  pub unchanged : (form : Form) (ts : Trees) → Decodes form document (array ts)
      → index_position (length (elements ts)) index ≡ None → MatchResult answer (λ made. made ≡ document) IsOutOfMemory

-- Holds if the result is the document without the value at the steps. If they select nothing, the bytes are the same; a
-- scalar has no children.
pub record DeletesPlace (steps : List Key) (document : List ℕ) (answer : Result (List ℕ) Error) : Type 0 where
  pub scalar : OfDocument document (λ form t said. IsTrue (is_json_scalar t)
      → (said ≡ Err OutOfMemory) ⊎ (said ≡ Err InvalidJsonType)) answer
  pub without : OfDocument document (λ form t said. IsTrue (not (is_json_scalar t)) → MatchResult said
      (λ made. Decodes form made (without steps t) × (MeetNoPart steps t → made ≡ document)) IsOutOfMemory) answer

-- Holds if the result is the object with the member. If the key exists and its value is not to be replaced, the call
-- fails.
pub record InsertsPair (document value name : List ℕ) (update : Bool) (answer : Outcome (List ℕ)) : Type 0 where
  pub inserted : (form : Form) (t v : Tree) → Decodes form document t → Decodes form value v
      → IsTrue (update || not (has_name name t)) → MakesOr InvalidObject form (object_insert name v t) answer
  pub duplicate : OfDocument document (λ form t said. IsTrue (has_name name t) → update ≡ false
      → said ≡ Err ObjectDuplicateKey) answer

-- ---- casts

-- Holds if the result is the number, if it is an integer that fits.
abbrev pub FindsWhole : {A : Type 0} → (A → ℤ) → (A → Type 0) → Tree → Option A → Type 0
FindsWhole {A} value Fits t found =
    MatchOption found ((x : A) → IsWholeNumber t (value x) → Fits x → ⊥) (λ x. IsWholeNumber t (value x))

-- ---- sortable keys

-- The width of depths in sortable keys.
abbrev pub width_of : Bool → Width
width_of wide = if wide then w16 else w8

-- ---- `check`

-- Holds if the bytes are a document, or the status is the error of `check`.
abbrev pub IsCheckOf : List ℕ → ℕ → Type 0
IsCheckOf document status = ((status ≡ code Answered) ↔ ((t : Tree) × Decodes any document t))
    × ((status ≡ code (Refused UnsupportedNumber)) ↔ IsUnsupportedDocument document)
    × ((status ≡ code (Refused InvalidJsonb)) ↔ IsNoDocument document)

-- ---- what single calls and calls on columns share. The last argument says how the result is delivered.

-- The mode in which a path is evaluated.
abbrev pub mode_of : Bool → Mode
mode_of strict = if strict then Strict else Lax

-- The array of all items.
abbrev pub one_array : List Tree → Option Tree
one_array ts = Some (array (trees_of ts))

-- Holds if a Boolean is delivered: whether the path selects an item.
abbrev pub TellsExistence : Mode → List Step → List ℕ → (Result Bool Error → Type 0) → Type 0
TellsExistence mode path document = WritesResult (ByMeanings mode document path IsFound) (IsSelectionError mode)

-- Holds if the result of the path as a predicate is delivered.
abbrev pub TellsTruth : Mode → List Step → List ℕ → (Result Truth Error → Type 0) → Type 0
TellsTruth mode path document = WritesResult (IsTruthOf mode path document) (IsSelectionError mode)

-- Holds if a document is delivered, of the item that is picked from the list that the path selects, if there is one.
abbrev pub SelectsItem : Mode → (List Tree → Option Tree) → List Step → List ℕ → (Found (List ℕ) → Type 0) → Type 0
SelectsItem mode pick path document =
    WritesResult (ByMeanings mode document path (IsPicked pick)) (IsSelectionError mode or TooLarge)

-- Holds if a document is delivered, of the value at the location of the steps, if there is one.
abbrev pub FindsPart : List Key → List ℕ → (Found (List ℕ) → Type 0) → Type 0
FindsPart steps document = WritesResult (OfDocument document (λ form t. MakesOption form (tree_at_steps steps t)))
    (IsDecodingError or OutOfMemory or TooLarge)

-- Holds if the document without the value at the steps is delivered.
abbrev pub DeletesPart : List Key → List ℕ → (Result (List ℕ) Error → Type 0) → Type 0
DeletesPart steps document =
    WritesResult (DeletesPlace steps document) (IsDecodingError or OutOfMemory or InvalidJsonType)

-- Holds if a Boolean is delivered: whether the document contains the other one.
abbrev pub TellsContainment : List ℕ → List ℕ → (Result Bool Error → Type 0) → Type 0
TellsContainment wanted document = WritesResult (λ answer. (form other_form : Form) (t u : Tree)
    → Decodes form document t → Decodes other_form wanted u → IsOkAnd answer (λ b. b ≡ contains t u)) IsDecodingError

-- Holds if the document is delivered as an integer.
abbrev pub WritesI64 : List ℕ → (Result ℤ Error → Type 0) → Type 0
WritesI64 document = WritesResult (OfDocument document (λ form t. Casts (λ z. IsSignedOf t z × FitsSigned w64 z)))
    (IsDecodingError or InvalidCast)

-- Holds if the document is delivered as a string.
abbrev pub WritesText : List ℕ → (Result (String Global) Error → Type 0) → Type 0
WritesText document = WritesResult (OfDocument document (λ form t. CastsToText (text_of t)))
    (IsDecodingError or OutOfMemory or InvalidCast)

-- Holds if the sortable key is delivered; the call fails if an item is too deep for one.
abbrev pub WritesKey : Width → List ℕ → (Result (List ℕ) Error → Type 0) → Type 0
WritesKey w document = WritesResult (OfDocument document (λ form t made. GivesKey w (deepest t) made
    (λ bytes. bytes ≡ sortable_key w t 0))) (IsDecodingError or OutOfMemory or TooDeep)

-- Holds if the equality key is delivered.
abbrev pub WritesEqualityKey : List ℕ → (Result (List ℕ) Error → Type 0) → Type 0
WritesEqualityKey document = WritesResult (OfDocument document (λ form t made. MatchResult made
    (λ bytes. bytes ≡ equality_key t) IsOutOfMemory)) (IsDecodingError or OutOfMemory)
