-- What a stored value states about the tree.
use Rattle.std.specs.Prelude.{◌≡◌}
use Rattle.jsonb_doc.specs.Tree as spec
use Rattle.jsonb_doc.specs.Tree.{Tree}
use Rattle.jsonb_doc.specs.Extension as spec_extension
use Rattle.jsonb_doc.specs.View.{number_view}
use Rattle.jsonb_doc.specs.declared.spot.content.StoredValue.{StoredValue}
use Rattle.jsonb_doc.specs.declared.spot.content.StoredValue.TheVariants.{Null, Boolean, Number, String, Extension, Array, Object}

-- Holds if the value is the tree, or the type of an extension value or a container.
abbrev pub IsStoredAs : StoredValue → Tree → Type 0
IsStoredAs Null t = t ≡ spec.null
IsStoredAs (Boolean b) t = t ≡ spec.boolean b
IsStoredAs (Number n) t = t ≡ spec.number (number_view n)
IsStoredAs (String s) t = t ≡ spec.text s.now
IsStoredAs Extension t = (x : spec_extension.Extension) × (t ≡ spec.extension x)
IsStoredAs Array t = (ts : spec.Trees) × (t ≡ spec.array ts)
IsStoredAs Object t = (ps : spec.Pairs) × (t ≡ spec.object ps)
