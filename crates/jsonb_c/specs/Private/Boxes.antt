-- The path in a box that may be away, why there is none, and items that a handle keeps.
use Rattle.std.specs.Prelude.{◌≡◌, ◌⊎◌, ℕ, Option, Some, None, List, Result, Ok, Err, Vec, Bool, IsOkAnd, true, false}
use Rattle.std.specs.declared.alloc.Global.{Global}
use Rattle.std.specs.declared.boxed.Box.{Box}
use Rattle.jsonb_c.specs.declared.prepared.path.PreparedPath.{PreparedPath}
use Rattle.jsonb_c.specs.declared.prepared.loose.LooseBox.{LooseBox}
use Rattle.jsonb_c.specs.declared.status.Status.{Status}
use Rattle.jsonb_c.specs.declared.status.Status.TheVariants.{Answered, Refused}
use Rattle.jsonb_c.specs.Status.{code}
use Rattle.jsonb_doc.specs.declared.error.Error.{Error}
use Rattle.jsonb_doc.specs.declared.error.Error.TheVariants.{OutOfMemory}
use Rattle.jsonb.specs.declared.selector.found.FoundItem.{FoundItem}
use Rattle.jsonb_c.specs.Representation.Prepared.{items_left}
use Rattle.jsonb_c.specs.Limits.{WithPath}
use Rattle.std.specs.Borrow.{Bor}
use Rattle.jsonb.specs.PathTree.{Step}
use Rattle.jsonb.specs.PathViews.{path_view}
use Rattle.jsonb.specs.declared.path.JsonPath.{JsonPath}
use Rattle.jsonb.specs.declared.selector.found.FoundItem.TheVariants.{At}

-- a parsed path is kept, or nothing is
abbrev pub Keeps : Result (Box PreparedPath Global) Status → Option PreparedPath → ℕ → Type 0
Keeps (Ok path) kept status = (status ≡ code Answered) × (kept ≡ Some path.value)
Keeps (Err cause) kept status = (status ≡ code cause) × (kept ≡ None)

-- the result is as stated of the path of the text, if it is one; otherwise the call fails, unless an allocation does
-- first
abbrev pub ByPath : {P A : Type 0} → Error → Option P → (P → Result A Error → Type 0) → Result A Error → Type 0
ByPath refusal None Promise answer = (answer ≡ Err OutOfMemory) ⊎ (answer ≡ Err refusal)
ByPath refusal (Some path) Promise answer = Promise path answer

abbrev pub boxed_path : Option (Box PreparedPath Global) → Option PreparedPath
boxed_path (Some held) = Some held.value
boxed_path None = None

abbrev pub loose_path : Option (LooseBox PreparedPath Global) → Option PreparedPath
loose_path (Some held) = Some held.value
loose_path None = None

-- the status of text that is not parsed: this one if it is not a path
abbrev pub IsTextRefusal : {P : Type 0} → Status → Option P → Status → Type 0
IsTextRefusal refusal read cause = (cause ≡ Refused OutOfMemory) ⊎ ((cause ≡ refusal) × (read ≡ None))

-- a box of the items, or the status of the error
abbrev pub HoldsItems : Result (Vec FoundItem Global) Error → Result (Box PreparedPath Global) Status → Type 0
HoldsItems (Ok found) (Ok made) = items_left (Some made.value) ≡ Some found.items
HoldsItems (Err e) (Err cause) = cause ≡ Refused e
HoldsItems _ _ = ⊥

-- the path that a call runs with: what the handle keeps, if the limit allows it; or the status
abbrev pub Admits : Option ℕ → Option (List Step) → List ℕ → Result (Bor JsonPath) Status → Type 0
Admits limit kept document answer = WithPath limit kept document
    (λ steps. IsOkAnd answer (λ path. path_view path.now ≡ steps)) (λ cause. answer ≡ Err cause)

-- whether the item is computed; otherwise it is in the document
abbrev pub is_computed : FoundItem → Bool
is_computed (At spot) = false
is_computed _ = true
