-- The key of several values, one after the other, such as the columns of an index.
use Rattle.std.specs.Prelude.{◌≡◌, ◌++◌, max, ℕ, List, Option, None, Some, [], ◌∷◌, IfSome, Result, MatchResult}
use Rattle.std.specs.Int.{Width}
use Rattle.std.specs.List.{AllByRecursion, AllZip}
use Rattle.jsonb_doc.specs.Tree.{Tree}
use Rattle.jsonb_doc.specs.Payload.{Form}
use Rattle.jsonb_doc.specs.Format.{Decodes}
use Rattle.jsonb_doc.specs.Depth.{deepest}
use Rattle.jsonb_doc.specs.Answer.{SameOption, IsOutOfMemory}
use Rattle.jsonb_doc.specs.declared.error.Error.{Error}
use Rattle.jsonb_raw.specs.Documents.{raw_bytes}
use Rattle.jsonb_raw.specs.KeyAnswer.{GivesKey}
use Rattle.jsonb_raw.specs.SortableKey.{item_bytes, sortable_key, HasKey}
use Rattle.jsonb_raw.specs.declared.raw.RawJsonb.{RawJsonb}

-- The key of a value that may be missing. A missing one has the type 0, which no item has.
abbrev pub column_key : Width → Option Tree → List ℕ
column_key w None = item_bytes w 0 0 []
column_key w (Some t) = sortable_key w t 0

-- Holds if each value that is not missing has a key.
abbrev pub HaveKeys : Width → List (Option Tree) → Type 0
HaveKeys w columns = AllByRecursion (λ column. IfSome column (λ t. HasKey w t 0)) columns

-- Holds if the result is that of appending the key of a value, which may be missing, to the bytes `old`.
abbrev pub AppendsColumn : Width → Option Tree → List ℕ → Result (Unit {0}) Error → List ℕ → Type 0
AppendsColumn w None old r new = MatchResult r (λ _. new ≡ old ++ column_key w None) IsOutOfMemory
AppendsColumn w (Some t) old r new = GivesKey w (deepest t) r (λ _. new ≡ old ++ column_key w (Some t))

-- The depth of the deepest item of the values, 0 if all are missing.
abbrev pub deepest_of_columns : List (Option Tree) → ℕ
deepest_of_columns [] = 0
deepest_of_columns (None ∷ columns) = deepest_of_columns columns
deepest_of_columns (Some t ∷ columns) = max (deepest t) (deepest_of_columns columns)

-- Holds if each column is a document of its value, or both are missing.
abbrev pub AreColumns : Form → List (Option RawJsonb) → List (Option Tree) → Type 0
AreColumns form columns values = AllZip (SameOption (λ raw t. Decodes form (raw_bytes raw) t)) columns values
