-- Documents of values that are looked for.
use Rattle.std.specs.Prelude.{◌≡◌, Option, Some, None, Result, Ok}
use Rattle.jsonb_doc.specs.Tree.{Tree}
use Rattle.jsonb_doc.specs.Payload.{Form}
use Rattle.jsonb_doc.specs.declared.error.Error.{Error}
use Rattle.jsonb_raw.specs.Documents.{MakesOption}
use Rattle.jsonb_raw.specs.declared.owned.OwnedJsonb.{OwnedJsonb}

-- Holds if the result is a document of the tree. If there is none, it is `None`, and no allocation fails.
abbrev pub Finds : Form → Option Tree → Result (Option OwnedJsonb) Error → Type 0
Finds form (Some t) r = MakesOption form (Some t) r
Finds form None r = r ≡ Ok None
