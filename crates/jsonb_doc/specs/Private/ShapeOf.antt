-- The shape of a stored entry.
use Rattle.std.specs.Prelude.{◌≡◌, ℕ, List, Some}
use Rattle.jsonb_doc.specs.Tree.{Tree}
use Rattle.jsonb_doc.specs.Payload.{any, number_reader}
use Rattle.jsonb_doc.specs.Format.{IsContent}
use Rattle.jsonb_doc.specs.Kinds.{kind_number}
use Rattle.jsonb_doc.specs.View.{extension_view}
use Rattle.jsonb_doc.specs.Private.EntryKinds.{text_entry}
use Rattle.jsonb_doc.specs.Private.Payloads.{extension_of}
use Rattle.jsonb_doc.specs.declared.layout.EntryKind.TheVariants as entry
use Rattle.jsonb_doc.specs.AnyBytes.Roots.{HasShape}
use Rattle.jsonb_doc.specs.declared.shape.Shape.{Shape}
use Rattle.jsonb_doc.specs.declared.shape.Shape.TheVariants.{Text, Extension, Array, Object}

-- Holds if the entry of this kind and content has this shape, on any bytes. A string is not read.
abbrev pub IsShapeOf : ℕ → List ℕ → Shape → Type 0
IsShapeOf kind content (Text bytes) = (kind ≡ text_entry) × (bytes.now ≡ content)
IsShapeOf kind content (Extension x) =
    (kind ≡ kind_number entry.Extension) × (extension_of content ≡ Some (extension_view x))
IsShapeOf kind content Array = ⊥
IsShapeOf kind content Object = ⊥
IsShapeOf kind content shape = (t : Tree) × IsContent (number_reader any) t kind content × HasShape shape t
