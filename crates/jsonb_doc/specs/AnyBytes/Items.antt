-- The item in an entry, and at the root, of any bytes.
use Rattle.std.specs.Prelude.{◌≡◌, ℕ, List, length}
use Rattle.jsonb_doc.specs.Tree.{Tree}
use Rattle.jsonb_doc.specs.Payload.{any, number_reader}
use Rattle.jsonb_doc.specs.Format.{Decodes, IsContent, array_header, object_header}
use Rattle.jsonb_doc.specs.Kinds.{kind_number}
use Rattle.jsonb_doc.specs.AnyBytes.Parts.{IsHeaded, HasItsWords}
use Rattle.jsonb_doc.specs.Item.{StandsFor}
use Rattle.jsonb_doc.specs.declared.item.Item.{Item}
use Rattle.jsonb_doc.specs.declared.item.Item.TheVariants.{Array, Object}
use Rattle.jsonb_doc.specs.declared.layout.EntryKind.TheVariants.{Container}

-- The length of the item of a container, in bytes.
abbrev pub item_size : Item → ℕ
item_size (Array bytes) = length bytes.now
item_size (Object bytes) = length bytes.now
item_size _ = 0

-- Holds if the item is the one in an entry of this kind and content, on any bytes. Only the header of a container is
-- read.
abbrev pub IsItemOf : ℕ → List ℕ → Item → Type 0
IsItemOf kind content (Array bytes) =
    (kind ≡ kind_number Container) × (bytes.now ≡ content) × IsHeaded array_header content
IsItemOf kind content (Object bytes) =
    (kind ≡ kind_number Container) × (bytes.now ≡ content) × IsHeaded object_header content
IsItemOf kind content item = (t : Tree) × IsContent (number_reader any) t kind content × StandsFor any item t

-- Holds if there is an item in an entry of this kind and content.
abbrev pub HasItem : ℕ → List ℕ → Type 0
HasItem kind content = (item : Item) × IsItemOf kind content item

-- Holds if the item is the root of the bytes, on any bytes. Only the header of a container is read, and its entry words
-- follow it.
abbrev pub IsRootOf : List ℕ → Item → Type 0
IsRootOf bytes (Array own) = (own.now ≡ bytes) × HasItsWords array_header 4 bytes
IsRootOf bytes (Object own) = (own.now ≡ bytes) × HasItsWords object_header 8 bytes
IsRootOf bytes item = (t : Tree) × Decodes any bytes t × StandsFor any item t
