-- Documents, and the results of functions that read and build them.
use Rattle.std.specs.Prelude.{ℕ, List, Option, Some, None, Result, IsNone, IsSomeAnd, MatchResult}
use Rattle.jsonb_doc.specs.Tree.{Tree}
use Rattle.jsonb_doc.specs.Payload.{Form}
use Rattle.jsonb_doc.specs.Format.{Decodes}
use Rattle.jsonb_doc.specs.Answer.{IsOutOfMemory}
use Rattle.jsonb_doc.specs.Limits.{Builds}
use Rattle.jsonb_doc.specs.declared.error.Error.{Error}
use Rattle.jsonb_raw.specs.declared.raw.RawJsonb.{RawJsonb}
use Rattle.jsonb_raw.specs.declared.owned.OwnedJsonb.{OwnedJsonb}

-- The bytes of a borrowed document. An owned one is its bytes.
abbrev pub raw_bytes : RawJsonb → List ℕ
raw_bytes raw = raw.bytes.now

-- Holds if the result is a document of this form that decodes to the tree, unless an allocation failed or the tree
-- exceeds the limits.
abbrev pub Makes : Form → Tree → Result OwnedJsonb Error → Type 0
Makes form t r = Builds form t r (λ made. Decodes form made t)

-- Holds if the result is a document of the tree, or `None` if there is none.
abbrev pub MakesOption : Form → Option Tree → Result (Option OwnedJsonb) Error → Type 0
MakesOption form (Some t) r = Builds form t r (λ found. IsSomeAnd found (λ made. Decodes form made t))
MakesOption form None r = MatchResult r IsNone IsOutOfMemory
