-- Roots that can be read, whether the bytes decode or not.
use Rattle.std.specs.Prelude.{◌≡◌, ◌⊎◌, ℕ, List, ◌++◌, length}
use Rattle.jsonb_doc.specs.AnyBytes.Items.{IsRootOf}
use Rattle.jsonb_doc.specs.AnyBytes.Parts.{IsHeaded}
use Rattle.jsonb_doc.specs.AnyBytes.Roots.{IsRootShape}
use Rattle.jsonb_doc.specs.Format.{Decodes, header, entry_word, scalar_header, object_header, array_header}
use Rattle.jsonb_doc.specs.Kinds.{kind_number}
use Rattle.jsonb_doc.specs.Payload.{any}
use Rattle.jsonb_doc.specs.Tree.{Tree}
use Rattle.jsonb_doc.specs.declared.layout.EntryKind.TheVariants.{Text}
use Rattle.jsonb_doc.specs.declared.item.Item.{Item}
use Rattle.jsonb_doc.specs.declared.shape.Shape.{Shape}
use Rattle.jsonb_raw.specs.declared.owned.OwnedJsonb.{OwnedJsonb}

-- Holds if the bytes have a root: a scalar that decodes, so it is not a float and not a 256-bit decimal, or the header
-- of a container, followed by its entry words.
abbrev pub HasRoot : List ℕ → Type 0
HasRoot bytes = (item : Item) × IsRootOf bytes item

-- Holds if the bytes have a root, as in `HasRoot`, except that a string may have any bytes.
abbrev pub HasRootShape : List ℕ → Type 0
HasRootShape bytes = (shape : Shape) × IsRootShape bytes shape

-- Holds if the bytes decode, except for the bytes of a string, and for what follows the header of a container. So they
-- are not a float and not a 256-bit decimal.
abbrev pub IsWhole : List ℕ → Type 0
IsWhole bytes =
    ((t : Tree) × Decodes any bytes t)
    ⊎ ((text : List ℕ) × (bytes ≡ header scalar_header 0 ++ (entry_word (kind_number Text) (length text) ++ text)))
    ⊎ IsHeaded array_header bytes ⊎ IsHeaded object_header bytes

-- Holds if `IsWhole` holds of the document after a key or a key path.
abbrev pub IsWholePair : {A : Type 0} → A × OwnedJsonb → Type 0
IsWholePair made = IsWhole made.1
