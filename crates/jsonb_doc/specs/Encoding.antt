-- The entry that an item is written as.
use Rattle.std.specs.Prelude.{ℕ, ◌^◌, ◌≤◌, List, [], length, if◌then◌else◌}
use Rattle.jsonb_doc.specs.Payload.{number_payload, extension_payload}
use Rattle.jsonb_doc.specs.Format.{entry_word}
use Rattle.jsonb_doc.specs.Kinds.{kind_number}
use Rattle.jsonb_doc.specs.View.{number_view, extension_view}
use Rattle.jsonb_doc.specs.declared.item.Item.{Item}
use Rattle.jsonb_doc.specs.declared.item.Item.TheVariants.{Null, Boolean, Number, String, Extension, Array, Object}
use Rattle.jsonb_doc.specs.declared.layout.EntryKind.TheVariants as entry

-- An entry: its kind and its content.
abbrev pub EntryParts : Type 0
EntryParts = ℕ × List ℕ

-- The entry of an item. A number is written in its shortest form.
abbrev pub entry_of : Item → EntryParts
entry_of Null = (kind_number entry.Null, [])
entry_of (Boolean b) = (if b then kind_number entry.True else kind_number entry.False, [])
entry_of (Number n) = (kind_number entry.Number, number_payload (number_view n))
entry_of (String s) = (kind_number entry.Text, s.now)
entry_of (Extension x) = (kind_number entry.Extension, extension_payload (extension_view x))
entry_of (Array bytes) = (kind_number entry.Container, bytes.now)
entry_of (Object bytes) = (kind_number entry.Container, bytes.now)

-- The bytes after the item's entry word.
abbrev pub item_content : Item → List ℕ
item_content item = (entry_of item).1

-- The item's entry word.
abbrev pub item_word : Item → List ℕ
item_word item = entry_word (entry_of item).0 (length (item_content item))

-- Holds if the content is too long for an entry.
abbrev pub IsTooLong : List ℕ → Type 0
IsTooLong content = 2 ^ 28 ≤ length content

-- Holds if a document of the item exceeds the limits. The root of a container may be longer than an entry's content.
abbrev pub IsTooLargeItem : Item → Type 0
IsTooLargeItem (Array bytes) = ⊥
IsTooLargeItem (Object bytes) = ⊥
IsTooLargeItem item = IsTooLong (item_content item)
