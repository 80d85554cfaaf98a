-- Names that are read of a column, and sets of them.
use Rattle.std.specs.Prelude.{◌≡◌, ℕ, Bool, List, Option, Some, None, Result, Ok, Err, IsOkAnd, MatchResult, if◌then◌else◌}
use Rattle.std.specs.Borrow.{Bor}
use Rattle.std.specs.List.{list_any}
use Rattle.std.specs.Str.{bytes_eq, is_utf8}
use Rattle.jsonb_raw.specs.Objects.{TextSet, is_in}
use Rattle.jsonb_doc.specs.Answer.{IsDecodingError, ◌or◌}
use Rattle.jsonb_doc.specs.Tree.{Tree}
use Rattle.jsonb_doc.specs.declared.error.Error.TheVariants.{InvalidObject, OutOfMemory, TooLarge}
use Rattle.std.specs.Int.{from_bool}
use Rattle.jsonb_c.specs.Answers.{DeliversNothing, DeliversValue, OfDocument, ShowsAs, ShowsNothing, With, WritesResult}
use Rattle.jsonb_c.specs.Calls.{MakesOr}
use Rattle.jsonb_raw.specs.Exists.{has_all, has_any}
use Rattle.jsonb_c.specs.Names.{dropped_names, picked_names}
use Rattle.jsonb_c.specs.declared.document.names.Chosen.{Chosen}
use Rattle.jsonb_c.specs.declared.document.names.Chosen.TheVariants.{Named, Rest}
use Rattle.jsonb_c.specs.declared.document.names.Quantity.{Quantity}
use Rattle.jsonb_c.specs.declared.document.names.Quantity.TheVariants.{All, Any}
use Rattle.jsonb_c.specs.declared.status.Status.{Status}
use Rattle.jsonb_c.specs.declared.status.Status.TheVariants.{BadOffsets, NotUtf8}

-- the name in a row, or what is wrong with it
abbrev pub name_of : Option (List ℕ) → Result (List ℕ) Status
name_of None = Err BadOffsets
name_of (Some bytes) = if is_utf8 bytes then Ok bytes else Err NotUtf8

-- the name that was read of a row, or what is wrong with it
abbrev pub IsNameOf : Result (Bor (List ℕ)) Status → Option (List ℕ) → Type 0
IsNameOf answer row = MatchResult answer (λ name. name_of row ≡ Ok name.now) (λ cause. name_of row ≡ Err cause)

-- the set holds these names
abbrev pub HasNames : TextSet → List (List ℕ) → Type 0
HasNames set names = (q : List ℕ) → is_in set q ≡ list_any (λ name. bytes_eq name q) names

-- whether all, or any, of the names are present
abbrev pub has_keys : Quantity → List (List ℕ) → Tree → Bool
has_keys All = has_all
has_keys Any = has_any

-- the object of the pairs that are chosen
abbrev pub chosen_pairs : Chosen → List (List ℕ) → Tree → Option Tree
chosen_pairs Named = picked_names
chosen_pairs Rest = dropped_names

-- the Boolean whether the document has the names, by `has`, is delivered
abbrev pub ShowsKeys : (List (List ℕ) → Tree → Bool) → List ℕ → Result (List (List ℕ)) Status → ℕ → ℕ → ℕ → Type 0
ShowsKeys has document names old new status = With names (λ wanted. WritesResult
    (OfDocument document (λ form t said. IsOkAnd said (λ b. b ≡ has wanted t))) IsDecodingError
    (ShowsAs from_bool old new status))
    (ShowsNothing old new status)

-- the object of the remaining members is delivered
abbrev pub DeliversPairs : (List (List ℕ) → Tree → Option Tree) → List ℕ → Result (List (List ℕ)) Status
    → List ℕ → List ℕ → ℕ → ℕ → Type 0
DeliversPairs kept document names old new len status = With names (λ wanted. WritesResult
    (OfDocument document (λ form t. MakesOr InvalidObject form (kept wanted t)))
    (IsDecodingError or OutOfMemory or TooLarge or InvalidObject)
    (DeliversValue old new len status))
    (DeliversNothing old new len status)
