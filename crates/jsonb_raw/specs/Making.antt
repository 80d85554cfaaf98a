-- Parts of results that are several documents.
use Rattle.std.specs.Prelude.{◌≡◌}
use Rattle.jsonb_doc.specs.Tree.{Tree}
use Rattle.jsonb_doc.specs.Payload.{Form}
use Rattle.jsonb_doc.specs.Format.{Decodes}
use Rattle.jsonb_raw.specs.declared.owned.OwnedJsonb.{OwnedJsonb}

-- Holds if these are the key of a value, or the steps to it, as seen by `view`, and a document of the value.
abbrev pub IsPairOf : {A B : Type 0} → (A → B) → Form → A × OwnedJsonb → B × Tree → Type 0
IsPairOf view form made p = (view made.0 ≡ p.0) × Decodes form made.1 p.1
