-- The equality key of a part of a container, as a walk writes it: its start, and then the keys of its own parts.
use Rattle.std.specs.Prelude.{◌≡◌, ℕ, List, ◌∷◌, ◌++◌, length, Option, Some, None, Result, MatchResult}
use Rattle.std.specs.Int.{w32, to_be_bytes}
use Rattle.jsonb_doc.specs.Tree as spec
use Rattle.jsonb_doc.specs.Tree.{Tree, count, keys}
use Rattle.jsonb_doc.specs.Payload.{Form}
use Rattle.jsonb_doc.specs.Answer.{IsOutOfMemory}
use Rattle.jsonb_doc.specs.declared.error.Error.{Error}
use Rattle.jsonb_raw.specs.declared.level.ChildCursor.{ChildCursor}
use Rattle.jsonb_raw.specs.Private.Levels.{EntryPrefix, IsLevelOf}
use Rattle.jsonb_raw.specs.EqualityKey.{equality_key}
use Rattle.jsonb_raw.specs.SortableKey.{text_bytes}

-- what precedes the keys of a tree's children: of a tree without children the whole key
abbrev pub equality_start : Tree → List ℕ
equality_start (spec.array ts) = 7 ∷ to_be_bytes w32 (count ts)
equality_start (spec.object ps) = 6 ∷ to_be_bytes w32 (length (keys ps))
equality_start t = equality_key t

abbrev pub equality_part_start : EntryPrefix → List ℕ
equality_part_start (None, t) = equality_start t
equality_part_start (Some k, t) = (5 ∷ text_bytes k) ++ equality_start t

-- the start of an item, appended to the bytes `old`, which returns the level of the tree's children
abbrev pub AppendsEqualityStart : Form → List ℕ → Tree → List ℕ → Result (Option ChildCursor) Error → List ℕ → Type 0
AppendsEqualityStart form bytes t old r new =
    MatchResult r (λ found. (new ≡ old ++ bytes) × IsLevelOf form t found) IsOutOfMemory
