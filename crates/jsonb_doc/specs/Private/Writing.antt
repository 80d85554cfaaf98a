-- Items that are appended to other bytes.
use Rattle.std.specs.Prelude.{◌≡◌, ℕ, List, ◌++◌, take, length, ⊤, IsUtf8}
use Rattle.jsonb_doc.specs.Number.{FitsNumber}
use Rattle.jsonb_doc.specs.Extension.{FitsExtension}
use Rattle.jsonb_doc.specs.Format.{header, entry_word, scalar_header}
use Rattle.jsonb_doc.specs.Private.EntryKinds.{number_entry}
use Rattle.jsonb_doc.specs.View.{number_view, extension_view}
use Rattle.jsonb_doc.specs.declared.item.Item.{Item}
use Rattle.jsonb_doc.specs.declared.item.Item.TheVariants.{Number, String, Extension}
use Rattle.jsonb_doc.specs.Encoding.{entry_of, item_content, item_word}

-- the kind of the item's entry
abbrev pub item_kind : Item → ℕ
item_kind item = (entry_of item).0

-- the document of the item's entry alone
abbrev pub scalar_bytes : Item → List ℕ
scalar_bytes item = header scalar_header 0 ++ (item_word item ++ item_content item)

-- the document of a number with this payload
abbrev pub number_bytes : List ℕ → List ℕ
number_bytes payload = header scalar_header 0 ++ (entry_word number_entry (length payload) ++ payload)

-- the numbers and fields of the item are within the ranges of their types, and its string is UTF-8
abbrev pub FitsItem : Item → Type 0
FitsItem (Number n) = FitsNumber (number_view n)
FitsItem (String s) = IsUtf8 s.now
FitsItem (Extension x) = FitsExtension (extension_view x)
FitsItem _ = ⊤

-- the earlier bytes stay first
abbrev pub StaysInFront : List ℕ → List ℕ → Type 0
StaysInFront old new = take (length old) new ≡ old
