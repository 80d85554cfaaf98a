-- Documents and containers, split by their headers into words and contents.
use Rattle.std.specs.Prelude.{◌≡◌, ◌≢◌, ◌<◌, ◌^◌, ℕ, List, ◌++◌, length}
use Rattle.jsonb_doc.specs.Tree.{Tree, array, object, Pairs, keys}
use Rattle.jsonb_doc.specs.Payload.{NumberReader}
use Rattle.jsonb_doc.specs.Format.{scalar_header, entry_word, AreKeys, key_words, key_bytes, HeadedBy, AreEntries, AreValues, IsContent}
use Rattle.jsonb_doc.specs.Private.EntryKinds.{container_entry}
use Rattle.jsonb_doc.specs.AnyBytes.Parts.{AreArrayParts, AreObjectParts}
use Rattle.jsonb_doc.specs.Kinds.{kind_number}
use Rattle.jsonb_doc.specs.declared.layout.EntryKind.TheVariants as entry
use Rattle.jsonb_doc.specs.declared.container.ObjectParts.{ObjectParts}
use Rattle.jsonb_doc.specs.declared.container.Container.{Container}
use Rattle.jsonb_doc.specs.declared.container.Container.TheVariants.{Scalar, Array, Object}

-- The words begin with one of this kind and length, and these others follow.
pub record StartWith (words : List ℕ) (kind len : ℕ) (others : List ℕ) : Type 0 where
  pub known : kind < 8
  pub fits : len < 2 ^ 28
  pub joined : words ≡ entry_word kind len ++ others

-- the bytes are a scalar entry: its word, and its content
pub record IsLoneEntry (bytes : List ℕ) (kind : ℕ) (content : List ℕ) : Type 0 where
  pub start : StartWith bytes kind (length content) content
  pub scalar : kind ≢ container_entry

-- the bytes are a header and these parts, as many as it counts
abbrev pub IsCut : List ℕ → Container → Type 0
IsCut bytes (Scalar e) =
    (rest : List ℕ) × HeadedBy bytes scalar_header 0 rest × IsLoneEntry rest (kind_number e.kind) e.content.now
IsCut bytes (Array p) = AreArrayParts bytes p.words.now p.contents.now
IsCut bytes (Object p) = AreObjectParts bytes p.key_words.now p.value_words.now p.contents.now

-- these are the words and the contents of an object's pairs
pub record HasPairParts (number_at : NumberReader) (ps : Pairs) (p : ObjectParts) : Type 0 where
  pub rest : List ℕ
  pub are_keys : AreKeys (keys ps)
  pub words : p.key_words.now ≡ key_words (keys ps)
  pub bytes : p.contents.now ≡ key_bytes (keys ps) ++ rest
  pub values : AreValues number_at ps p.value_words.now rest

-- the parts are those of a document of this tree
abbrev pub Holds : NumberReader → Tree → Container → Type 0
Holds number_at t (Scalar e) =
    (kind_number e.kind ≢ kind_number entry.Container) × IsContent number_at t (kind_number e.kind) e.content.now
Holds number_at (array ts) (Array p) = AreEntries number_at ts p.words.now p.contents.now
Holds number_at (object ps) (Object p) = HasPairParts number_at ps p
Holds number_at _ _ = ⊥

-- the number of bytes of the words of one entry per element or pair
abbrev pub container_words : Container → ℕ
container_words (Scalar e) = 0
container_words (Array p) = length p.words.now
container_words (Object p) = length p.key_words.now

-- the length of the contents, in bytes
abbrev pub container_room : Container → ℕ
container_room (Scalar e) = length e.content.now
container_room (Array p) = length p.contents.now
container_room (Object p) = length p.contents.now
