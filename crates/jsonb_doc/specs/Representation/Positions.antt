-- What spots, the iterator over spots, and the positions of children store.
use Rattle.std.specs.Prelude.{ℕ, ◌^◌, ◌<◌, ◌≤◌, List, length, slice_range, ◌≡◌, ◌+◌, ◌*◌, map}
use Rattle.jsonb_doc.specs.Tree.{Tree, trees_of, text, array, object, elements, keys, values}
use Rattle.jsonb_doc.specs.Payload.{Form, any, number_reader}
use Rattle.jsonb_doc.specs.Format.{Decodes, AreEntries, IsContent}
use Rattle.jsonb_doc.specs.Kinds.{kind_number}
use Rattle.jsonb_doc.specs.declared.spot.Spot.{Spot}
use Rattle.jsonb_doc.specs.declared.spot_iter.SpotIter.{SpotIter}
use Rattle.jsonb_doc.specs.declared.child_positions.ChildPositions.{ChildPositions}
use Rattle.jsonb_doc.specs.declared.child_positions.EntryPositions.{EntryPositions}

-- The content of a spot within these bytes.
abbrev pub spot_content : List ℕ → Spot → List ℕ
spot_content bytes spot = slice_range bytes spot.start spot.end

-- Holds if the spot is a position of the tree in bytes that decode, in each form in which they do.
pub record Locates (bytes : List ℕ) (spot : Spot) (t : Tree) : Type 0 where
  pub whole : Tree
  pub decodes : Decodes any bytes whole
  pub ordered : spot.start ≤ spot.end
  pub within : spot.end ≤ length bytes
  pub content : (form : Form) (top : Tree) → Decodes form bytes top
      → IsContent (number_reader form) t (kind_number spot.kind) (spot_content bytes spot)

-- Holds if these trees are left in the iterator, for spots of these bytes.
pub record HasSpotsLeft (bytes : List ℕ) (it : SpotIter) (ts : List Tree) : Type 0 where
  pub whole : Tree
  pub decodes : Decodes any bytes whole
  pub few : length ts < 2 ^ 29
  pub ordered : it.start ≤ it.end
  pub within : it.end ≤ length bytes
  pub entries : (form : Form) (top : Tree) → Decodes form bytes top
      → AreEntries (number_reader form) (trees_of ts) it.words.now (slice_range bytes it.start it.end)

-- Holds if the entries of these trees, this many, are at these positions of bytes that decode.
pub record AreAt (bytes : List ℕ) (left : ℕ) (at : EntryPositions) (ts : List Tree) : Type 0 where
  pub whole : Tree
  pub decodes : Decodes any bytes whole
  pub counted : left ≡ length ts
  pub few : left < 2 ^ 29
  pub words_within : at.word + 4 * left ≤ length bytes
  pub ordered : at.content ≤ at.end
  pub within : at.end ≤ length bytes
  pub entries : (form : Form) (top : Tree) → Decodes form bytes top
      → AreEntries (number_reader form) (trees_of ts) (slice_range bytes at.word (at.word + 4 * left))
      (slice_range bytes at.content at.end)

-- Holds if the remaining children are the elements of this array, or the members of this object.
abbrev pub HasChildrenLeft : List ℕ → ChildPositions → Tree → Type 0
HasChildrenLeft bytes at (array ts) = (at.keys.word ≡ 0) × AreAt bytes at.left at.values (elements ts)
HasChildrenLeft bytes at (object ps) = (0 < at.keys.word) × AreAt bytes at.left at.keys (map text (keys ps))
    × AreAt bytes at.left at.values (elements (values ps))
HasChildrenLeft bytes at _ = ⊥
