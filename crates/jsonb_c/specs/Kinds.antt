-- The types of documents, and their numbers.
use Rattle.std.specs.Prelude.{◌≡◌, ℕ, List, [], ◌∷◌, Some, codes, slice_get}
use Rattle.jsonb_doc.specs.Tree.{Tree}
use Rattle.jsonb_raw.specs.Scalars.{type_name}

-- The names of the types, by their numbers.
abbrev pub type_names : List (List ℕ)
type_names = codes "NULL_VALUE" ∷ codes "BOOLEAN" ∷ codes "INTEGER" ∷ codes "DECIMAL" ∷ codes "STRING" ∷ codes "BINARY"
    ∷ codes "DATE" ∷ codes "TIMESTAMP" ∷ codes "TIMESTAMP_TZ" ∷ codes "INTERVAL" ∷ codes "ARRAY" ∷ codes "OBJECT" ∷ []

-- Holds if the number is that of the tree's type.
abbrev pub IsTypeOf : Tree → ℕ → Type 0
IsTypeOf t n = slice_get type_names n ≡ Some (type_name t)
