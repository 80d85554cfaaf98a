-- The sortable key of a part of a container, as a walk writes it: its start, and then the keys of its own parts.
use Rattle.std.specs.Prelude.{◌≡◌, ◌<◌, ℕ, false, List, [], ◌++◌, Option, Some, None, Result, MatchResult}
use Rattle.std.specs.Int.{Width}
use Rattle.jsonb_doc.specs.Tree as spec
use Rattle.jsonb_doc.specs.Tree.{Tree}
use Rattle.jsonb_doc.specs.declared.error.Error.{Error}
use Rattle.jsonb_doc.specs.Depth.{deepest}
use Rattle.jsonb_doc.specs.Payload.{Form}
use Rattle.jsonb_raw.specs.declared.level.ChildCursor.{ChildCursor}
use Rattle.jsonb_raw.specs.declared.sortable_key.Depth.{Depth}
use Rattle.jsonb_raw.specs.KeyAnswer.{GivesKey}
use Rattle.jsonb_raw.specs.Private.KeyErrors.{IsOutOfMemoryOrTooDeep}
use Rattle.jsonb_raw.specs.Private.KeyWidth.{width_of}
use Rattle.jsonb_raw.specs.Private.Levels.{EntryPrefix, parts, HasPartsLeft}
use Rattle.jsonb_raw.specs.Private.StartHints.{is_container}
use Rattle.jsonb_raw.specs.SortableKey.{sortable_key, item_bytes, text_bytes, depths}

-- what precedes the keys of a tree's children: of a tree without children the whole key
abbrev pub start : Width → Tree → ℕ → List ℕ
start w (spec.array ts) d = item_bytes w d 7 []
start w (spec.object ps) d = item_bytes w d 6 []
start w t d = sortable_key w t d

-- what precedes the start of a child: its key, if it is a value of an object
abbrev pub name_start : Width → Option (List ℕ) → ℕ → List ℕ
name_start w None d = []
name_start w (Some k) d = item_bytes w d 5 (text_bytes k)

abbrev pub part_start : Width → EntryPrefix → ℕ → List ℕ
part_start w part d = name_start w part.0 d ++ start w part.1 d

-- the sortable key of a document, appended to the bytes `old`
abbrev pub AppendsKey : Width → Tree → List ℕ → Result (Unit {0}) Error → List ℕ → Type 0
AppendsKey w tree old r new = GivesKey w (deepest tree) r (λ _. new ≡ old ++ sortable_key w tree 0)

-- these bytes, appended to the bytes `old` if an item at the depth is not too deep
abbrev pub AppendsBytes : Depth → List ℕ → List ℕ → Result (Unit {0}) Error → List ℕ → Type 0
AppendsBytes depth bytes old r new =
    MatchResult r (λ _. (new ≡ old ++ bytes) × (depth.value < depths (width_of depth.width)))
    (IsOutOfMemoryOrTooDeep depth.value (depths (width_of depth.width)))

-- an item of this type and content, after its depth
abbrev pub AppendsItem : Depth → ℕ → List ℕ → List ℕ → Result (Unit {0}) Error → List ℕ → Type 0
AppendsItem depth kind content =
    AppendsBytes depth (item_bytes (width_of depth.width) depth.value kind content)

-- the key of a scalar tree
abbrev pub AppendsScalar : Depth → Tree → List ℕ → Result (Unit {0}) Error → List ℕ → Type 0
AppendsScalar depth t old r new = is_container t ≡ false
    → AppendsBytes depth (sortable_key (width_of depth.width) t depth.value) old r new

-- what precedes the children of a container, which are returned
abbrev pub AppendsStart : Form → Depth → Tree → List ℕ → Result ChildCursor Error → List ℕ → Type 0
AppendsStart form depth t old r new =
    MatchResult r (λ level. (new ≡ old ++ start (width_of depth.width) t depth.value)
    × (depth.value < depths (width_of depth.width)) × HasPartsLeft form level (parts t))
    (IsOutOfMemoryOrTooDeep depth.value (depths (width_of depth.width)))
