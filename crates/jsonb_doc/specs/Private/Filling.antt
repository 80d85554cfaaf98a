-- Values of containers that are filled part by part.
use Rattle.std.specs.Prelude.{◌≡◌, ◌<◌, ℕ, List, [], ◌∷◌, ◌++◌, length, string_bytes, ⊤}
use Rattle.jsonb_doc.specs.Number as spec
use Rattle.jsonb_doc.specs.Tree.{Tree, Trees, Pairs, array, object, elements, members, keys, trees_of, pairs_of}
use Rattle.jsonb_doc.specs.Payload.{Form, number_reader}
use Rattle.jsonb_doc.specs.Format.{AreKeys, IsContent}
use Rattle.jsonb_doc.specs.Private.EntryKinds.{container_entry}
use Rattle.jsonb_doc.specs.Private.Stored.{HasEntriesLeft, HasPairEntriesLeft, entries_room}
use Rattle.jsonb_doc.specs.Value.{tree_seen}
use Rattle.jsonb_doc.specs.Private.Values.{trees_seen, members_seen}
use Rattle.jsonb_doc.specs.declared.number.Number.{Number}
use Rattle.jsonb_doc.specs.declared.value.decode.Open.{Open}
use Rattle.jsonb_doc.specs.declared.value.decode.Open.TheVariants as open_at
use Rattle.jsonb_doc.specs.declared.value.decode.Filled.{Filled}
use Rattle.jsonb_doc.specs.declared.value.decode.Filled.TheVariants.{Whole, Within}

-- nothing is left out
abbrev pub IsWhole : Filled → Type 0
IsWhole (Whole v) = ⊤
IsWhole (Within o part) = ⊥

-- an upper bound of the length of a remaining child, on any bytes
abbrev pub open_room : Open → ℕ
open_room (open_at.Array values left) = entries_room left
open_room (open_at.Object made name left) = entries_room left.values

-- the child that is left out, if there is one, and those after it have fewer bytes
abbrev pub IsShorter : ℕ → Filled → Type 0
IsShorter n (Whole v) = ⊤
IsShorter n (Within o part) = (length part.now < n) × (open_room o < n)

module _ (seen : Number → spec.Number) (form : Form) where
  -- with this tree as the missing part the container is this one
  abbrev pub MakesWhole : Open → Tree → Tree → Type 0
  MakesWhole (open_at.Array values left) part whole =
      (ts : Trees) × HasEntriesLeft form left ts
      × (array (trees_of (trees_seen seen values.items ++ part ∷ elements ts)) ≡ whole)
  MakesWhole (open_at.Object made name left) part whole =
      (ps : Pairs) × HasPairEntriesLeft form left ps
      × AreKeys (keys (pairs_of (members_seen seen made.entries ++ (string_bytes name, part) ∷ members ps)))
      × (object (pairs_of (members_seen seen made.entries ++ (string_bytes name, part) ∷ members ps)) ≡ whole)

  -- what is filled is the tree, or will be, with the value of the part that is left out
  abbrev pub FillsTo : Tree → Filled → Type 0
  FillsTo whole (Whole v) = tree_seen seen v ≡ whole
  FillsTo whole (Within o part) =
      (t : Tree) × IsContent (number_reader form) t container_entry part.now × MakesWhole o t whole

  -- with this tree as the missing part of the first container, and each container as that of the next, the last is this
  -- one
  abbrev pub LeadsTo : List Open → Tree → Tree → Type 0
  LeadsTo [] part whole = part ≡ whole
  LeadsTo (o ∷ around) part whole = (t : Tree) × MakesWhole o part t × LeadsTo around t whole
