-- The roots that can be read, of any bytes.
use Rattle.std.specs.Prelude.{ℕ, List, ◌≢◌, ◌⊎◌, ◌≡◌, ⊤}
use Rattle.jsonb_doc.specs.AnyBytes.Parts.{AreNone, HasItsWords}
use Rattle.jsonb_doc.specs.Format.{IsContainer, HasFirstEntry, scalar_header, object_header, array_header, Decodes}
use Rattle.jsonb_doc.specs.Kinds.{kind_number}
use Rattle.jsonb_doc.specs.Tree.{Tree}
use Rattle.jsonb_doc.specs.Payload.{any}
use Rattle.jsonb_doc.specs.View.{number_parts, number_view, extension_view}
use Rattle.jsonb_doc.specs.Tree as spec
use Rattle.jsonb_doc.specs.declared.shape.Shape.{Shape}
use Rattle.jsonb_doc.specs.declared.shape.Shape.TheVariants.{Null, Boolean, Number, Text, Extension, Array, Object}
use Rattle.jsonb_doc.specs.declared.layout.EntryKind.TheVariants as entry

-- Holds if the root can be read: after the header of an array there is a word for each element, after that of an object
-- two for each member, and after that of a scalar one scalar entry.
abbrev pub HasReadableRoot : List ℕ → Type 0
HasReadableRoot bytes =
    HasItsWords array_header 4 bytes ⊎ HasItsWords object_header 8 bytes
    ⊎ IsContainer scalar_header 0 (HasFirstEntry (λ kind content. kind ≢ kind_number entry.Container) AreNone) bytes

-- Holds if the tree is of this shape.
abbrev pub HasShape : Shape → Tree → Type 0
HasShape Null t = t ≡ spec.null
HasShape (Boolean b) t = t ≡ spec.boolean b
HasShape (Number n) t = t ≡ spec.number (number_parts n)
HasShape (Text bytes) t = t ≡ spec.text bytes.now
HasShape (Extension x) t = t ≡ spec.extension (extension_view x)
HasShape Array t = (ts : spec.Trees) × (t ≡ spec.array ts)
HasShape Object t = (ps : spec.Pairs) × (t ≡ spec.object ps)

-- Holds if the shape is not a zero, or is the unsigned zero, as each one that is read.
abbrev pub IsNormalShape : Shape → Type 0
IsNormalShape (Number n) = number_parts n ≡ number_view n
IsNormalShape _ = ⊤

-- Holds if the root of the bytes has this shape, on any bytes. A string is one entry, whose bytes are not read. Another
-- scalar decodes, so it is not a float and not a decimal of 256 bits. Only the header of a container is read, which its
-- entry words follow.
abbrev pub IsRootShape : List ℕ → Shape → Type 0
IsRootShape bytes (Text s) =
    IsContainer scalar_header 0
    (HasFirstEntry (λ kind content. (kind ≡ kind_number entry.Text) × (content ≡ s.now)) AreNone) bytes
IsRootShape bytes Array = HasItsWords array_header 4 bytes
IsRootShape bytes Object = HasItsWords object_header 8 bytes
IsRootShape bytes shape = (t : Tree) × Decodes any bytes t × HasShape shape t
