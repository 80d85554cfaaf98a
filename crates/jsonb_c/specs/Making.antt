-- Results of the functions that build and count documents.
use Rattle.std.specs.Prelude.{◌≡◌, ◌⊎◌, ℕ, ℤ, Bool, List, [], ◌∷◌, length, Option, Some, None, is_some, option_and_then, flat_map, slice_get, Result, Ok, Err, FitsSigned, MatchOption, IsSomeAnd, if◌then◌else◌}
use Rattle.std.specs.Int.{Width, w64}
use Rattle.jsonb_doc.specs.declared.error.Error.{Error}
use Rattle.std.specs.List.{zip, AllZip, list_all}
use Rattle.jsonb_doc.specs.declared.error.Error.TheVariants.{ObjectDuplicateKey, TooLarge}
use Rattle.jsonb_doc.specs.Answer.{Refines, Outcome, IsOutOfMemory, ◌or◌when◌}
use Rattle.jsonb_doc.specs.EventList.{whole_of}
use Rattle.jsonb_doc.specs.Limits.{Builds, IsTooLarge}
use Rattle.jsonb_doc.specs.ObjectBuilder.{has_key, insert_pair}
use Rattle.jsonb_doc.specs.Number.{Number, number_from, decimal64, decimal128}
use Rattle.jsonb_doc.specs.Tree.{Tree, array, number, object, pairs_of, trees_of}
use Rattle.jsonb_doc.specs.Payload.{Form}
use Rattle.jsonb_doc.specs.Format.{Decodes}
use Rattle.jsonb_raw.specs.CompositeKeys.{column_key, deepest_of_columns}
use Rattle.jsonb_raw.specs.Documents.{Makes}
use Rattle.jsonb_raw.specs.KeyAnswer.{GivesKey}
use Rattle.jsonb_raw.specs.Objects.{object_each}
use Rattle.jsonb_c.specs.Status.{code}
use Rattle.jsonb_c.specs.declared.status.Status.TheVariants.{Absent, Refused}
use Rattle.jsonb_c.specs.Answers.{WritesAll}

-- ---- one value

-- Holds if the result is a document of the tree, in its shortest form.
abbrev pub Encodes : Tree → Result (List ℕ) Error → Type 0
Encodes t answer = (form : Form) → Makes form t answer

-- Holds for two halves and a scale that are the parts of the number.
abbrev pub ArePartsOf : ℤ × ℕ × ℕ → Number → Type 0
ArePartsOf parts n = (whole_of parts.0 parts.1 ≡ n.whole) × (parts.2 ≡ n.scale)

-- Holds for the decimal of an integer and a scale: of 64 bits if the value fits, otherwise of 128.
abbrev pub IsDecimalOf : ℤ → ℕ → Tree → Type 0
IsDecimalOf whole scale t = (FitsSigned w64 whole × (t ≡ number (number_from decimal64 whole scale)))
    ⊎ ((FitsSigned w64 whole → ⊥) × (t ≡ number (number_from decimal128 whole scale)))

-- ---- an array of a column

-- Whether no offset decreases or exceeds the data.
abbrev pub is_placed : List (Option (List ℕ)) → Bool
is_placed column = list_all is_some column

-- Holds if the row is a document of the tree.
abbrev pub IsRowOf : Form → Option (List ℕ) → Tree → Type 0
IsRowOf form row t = IsSomeAnd row (λ document. Decodes form document t)

-- Holds if the result is an array of the rows.
abbrev pub MakesArray : List (Option (List ℕ)) → Result (List ℕ) Error → Type 0
MakesArray column answer = (form : Form) (ts : List Tree) → AllZip (IsRowOf form) column ts
    → Makes form (array (trees_of ts)) answer

-- ---- the composite key of a column

-- Holds if the row has no bytes and the value is missing, or the row is a document of the value.
abbrev pub IsValueOf : Form → Option (List ℕ) → Option Tree → Type 0
IsValueOf form row value = IsSomeAnd row (λ bytes. MatchOption value (bytes ≡ []) (Decodes form bytes))

-- Holds if the result is the composite key of the rows.
abbrev pub MakesCompositeKey : Width → List (Option (List ℕ)) → Result (List ℕ) Error → Type 0
MakesCompositeKey w column answer = (form : Form) (values : List (Option Tree)) → AllZip (IsValueOf form) column values
    → GivesKey w (deepest_of_columns values) answer (λ made. made ≡ flat_map (column_key w) values)

-- ---- an object of two columns

-- The members with those of the rows added, one row after the other; the first key that exists already is an error.
abbrev pub put_rows : List (List ℕ × Tree) → List (List ℕ × Tree) → Outcome (List (List ℕ × Tree))
put_rows ps [] = Ok ps
put_rows ps (row ∷ rows) =
    if has_key row.0 ps then Err ObjectDuplicateKey else put_rows (insert_pair row.0 row.1 ps) rows

-- Holds if the result is an object of the members in the rows; `TooLarge` only if a document of that many members of
-- these sizes exceeds the limits.
abbrev pub IsObjectOf : Form → List (List ℕ × Tree) → Result (List ℕ) Error → Type 0
IsObjectOf form rows answer = Refines (λ made ps. Decodes form made (object (pairs_of ps)))
    (IsOutOfMemory or TooLarge when IsTooLarge form (object (pairs_of rows))) answer (put_rows [] rows)

-- Holds if the result is an object of keys and a column of documents.
abbrev pub MakesObject : List (List ℕ) → List (Option (List ℕ)) → Result (List ℕ) Error → Type 0
MakesObject names column answer =
    (form : Form) (ts : List Tree) → AllZip (IsRowOf form) column ts → IsObjectOf form (zip names ts) answer

-- ---- pairs

-- Holds if the result is the member at a position: its key, and a document of its value.
abbrev pub FindsPair : Form → ℕ → Tree → Result (Option (List ℕ × List ℕ)) Error → Type 0
FindsPair form index t answer =
    MatchOption (option_and_then (λ ps. slice_get ps index) (object_each t)) (answer ≡ Ok None)
    (λ p. Builds form p.1 answer (λ found. IsSomeAnd found (λ made. (made.0 ≡ p.0) × Decodes form made.1 p.1)))

-- Holds if the key and the document of the value are delivered, each to its buffer. Neither is written if one does not
-- fit, if there is no such member, or if the call fails.
abbrev pub DeliversPair : List (List ℕ) → List (List ℕ) → ℕ × ℕ → ℕ → Result (Option (List ℕ × List ℕ)) Error → Type 0
DeliversPair old new lens status (Ok (Some found)) =
    (lens ≡ (length found.0, length found.1)) × WritesAll (found.0 ∷ found.1 ∷ []) old new status
DeliversPair old new lens status (Ok None) = (lens ≡ (0, 0)) × (new ≡ old) × (status ≡ code Absent)
DeliversPair old new lens status (Err e) = (lens ≡ (0, 0)) × (new ≡ old) × (status ≡ code (Refused e))
