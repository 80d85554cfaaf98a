-- What walks have left of containers.
use Rattle.std.specs.Prelude.{◌≡◌, ◌≤◌, ◌<◌, ◌^◌, ℕ, List, [], ◌∷◌, length, IsUtf8, Option, Some, None, Result, Ok, ⊤}
use Rattle.std.specs.Borrow.{Bor}
use Rattle.jsonb_doc.specs.declared.error.Error.{Error}
use Rattle.jsonb_doc.specs.declared.entry_iter.StoredEntry.{StoredEntry}
use Rattle.jsonb_doc.specs.Tree as spec
use Rattle.jsonb_doc.specs.Tree.{Tree, Trees}
use Rattle.jsonb_doc.specs.Payload.{Form}
use Rattle.jsonb_doc.specs.Private.Stored.{HasEntriesLeft, HasPairEntriesLeft, Stores, entries_bound, entries_room}
use Rattle.jsonb_raw.specs.declared.level.ChildCursor.{ChildCursor}
use Rattle.jsonb_raw.specs.declared.level.ChildCursor.TheVariants.{Elements, Pairs}

-- a child of a container: its key, if it is a value of an object, and its tree
abbrev pub EntryPrefix : Type 0
EntryPrefix = Option (List ℕ) × Tree

abbrev pub parts_of_trees : Trees → List EntryPrefix
parts_of_trees spec.no_trees = []
parts_of_trees (spec.tree t ts) = (None, t) ∷ parts_of_trees ts

abbrev pub parts_of_pairs : spec.Pairs → List EntryPrefix
parts_of_pairs spec.no_pairs = []
parts_of_pairs (spec.pair k t ps) = (Some k, t) ∷ parts_of_pairs ps

abbrev pub parts : Tree → List EntryPrefix
parts (spec.array ts) = parts_of_trees ts
parts (spec.object ps) = parts_of_pairs ps
parts _ = []

-- these parts are left
abbrev pub HasPartsLeft : Form → ChildCursor → List EntryPrefix → Type 0
HasPartsLeft form (Elements it) ps = (ts : Trees) × HasEntriesLeft form it ts × (ps ≡ parts_of_trees ts)
HasPartsLeft form (Pairs it) ps = (qs : spec.Pairs) × HasPairEntriesLeft form it qs × (ps ≡ parts_of_pairs qs)

-- the level of a tree's parts; only what has none has no level
abbrev pub IsLevelOf : Form → Tree → Option ChildCursor → Type 0
IsLevelOf form t (Some level) = HasPartsLeft form level (parts t)
IsLevelOf form t None = parts t ≡ []

-- all parts of the container are left
abbrev pub HasAllLeft : Form → Tree → ChildCursor → Type 0
HasAllLeft form (spec.array ts) (Elements it) = HasEntriesLeft form it ts
HasAllLeft form (spec.object ps) (Pairs it) = HasPairEntriesLeft form it ps
HasAllLeft form _ _ = ⊥

-- the bytes are the key, if there is one
abbrev pub IsKeyOf : Option (Bor (List ℕ)) → Option (List ℕ) → Type 0
IsKeyOf (Some text) (Some k) = (text.now ≡ k) × IsUtf8 k
IsKeyOf None None = ⊤
IsKeyOf _ _ = ⊥

-- the result is the first of the children, and the others remain
abbrev pub TakesPart : Form → List EntryPrefix → Result (Option (Option (Bor (List ℕ)) × StoredEntry)) Error → ChildCursor → Type 0
TakesPart form [] (Ok None) after = ⊤
TakesPart form [] _ after = ⊥
TakesPart form (p ∷ ps) (Ok (Some given)) after =
    IsKeyOf given.0 p.0 × Stores form given.1 p.1 × HasPartsLeft form after ps
TakesPart form (p ∷ ps) _ after = ⊥

-- at most how many bytes an entry of the level has, on any bytes
abbrev pub level_room : ChildCursor → ℕ
level_room (Elements it) = entries_room it
level_room (Pairs it) = entries_room it.values

-- at most how many entries the level gives, on any bytes
abbrev pub level_bound : ChildCursor → ℕ
level_bound (Elements it) = entries_bound it
level_bound (Pairs it) = entries_bound it.keys

-- the level, if any, is one of less than this many bytes, on any bytes
abbrev pub IsLevelWithin : ℕ → Option ChildCursor → Type 0
IsLevelWithin bytes (Some level) = (level_room level < bytes) × (level_bound level < 2 ^ 64)
IsLevelWithin bytes None = ⊤

-- with this entry taken the level is smaller, on any bytes
pub record IsSmaller (before : ChildCursor) (entry : StoredEntry) (after : ChildCursor) : Type 0 where
  pub size : length entry.content.now ≤ level_room before
  pub room : level_room after ≤ level_room before
  pub bound : level_bound after < level_bound before
