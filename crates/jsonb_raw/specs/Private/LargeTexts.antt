-- Strings of which some were not passed to the closure.
use Rattle.std.specs.Prelude.{ℕ, ◌<◌, Bool, true, false, List, MatchBool, Option, Some, None, Result, MatchResult, IsOkAnd, IfSome}
use Rattle.std.specs.Borrow.{Bor}
use Rattle.std.specs.Fn.{Shared}
use Rattle.jsonb_doc.specs.Tree.{Tree}
use Rattle.jsonb_doc.specs.Payload.{Form}
use Rattle.jsonb_doc.specs.Format.{Decodes}
use Rattle.jsonb_doc.specs.Item.{StandsFor}
use Rattle.jsonb_doc.specs.AnyBytes.Items.{item_size}
use Rattle.jsonb_doc.specs.Answer.{IsDecodingError}
use Rattle.jsonb_doc.specs.declared.error.Error.{Error}
use Rattle.jsonb_doc.specs.declared.item.Item.{Item}
use Rattle.jsonb_raw.specs.declared.functions.operator.traverse.TextSearch.{TextSearch}
use Rattle.jsonb_raw.specs.Texts.{texts, Tells}

-- the strings of the item that was left out, if there is one, decide
abbrev pub LargeTells : {F : Type 0} → Shared F (Bor (List ℕ) × Unit {0}) Bool → F → Form → List (List ℕ) → Option Item
    → Type 0
LargeTells calls func form ss None = Tells calls func ss false
LargeTells calls func form ss (Some item) =
    (t : Tree) × StandsFor form item t × ((b : Bool) → Tells calls func (texts t) b → Tells calls func ss b)

-- a call returned true, or what was left out decides
abbrev pub LeavesTexts : {F : Type 0} → Shared F (Bor (List ℕ) × Unit {0}) Bool → F → Form → List (List ℕ) → Bool
    → Option Item → Type 0
LeavesTexts calls func form ss answer large =
    MatchBool answer (Tells calls func ss true) (LargeTells calls func form ss large)

-- a call returned true, or what was left out decides, for bytes that are those of the tree
abbrev pub TellsBut : {F : Type 0} → Shared F (Bor (List ℕ) × Unit {0}) Bool → F → Form → Tree → List ℕ
    → Result TextSearch Error → Type 0
TellsBut calls func form t bytes r =
    Decodes form bytes t → IsOkAnd r (λ told. LeavesTexts calls func form (texts t) told.answer told.large)

-- on any bytes what was left out is shorter than this, and an error is a decoding error
abbrev pub ConsumesInput : ℕ → Result TextSearch Error → Type 0
ConsumesInput len r = MatchResult r (λ told. IfSome told.large (λ item. item_size item < len)) IsDecodingError
