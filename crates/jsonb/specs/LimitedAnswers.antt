-- The results of calls with a limit: those of the selector, or `LimitExceeded`.
use Rattle.std.specs.Prelude.{◌≡◌, ◌⊎◌, ◌<◌, ℕ, List, Result, Ok, Err, IsErrOf, IsErrAnd, ⊤, codes}
use Rattle.jsonb_doc.specs.declared.error.Error.{Error}
use Rattle.jsonb_doc.specs.declared.error.Error.TheVariants.{OutOfMemory}
use Rattle.jsonb_doc.specs.ErrorText.{error_text}
use Rattle.jsonb.specs.MostItems.{most_items}
use Rattle.jsonb.specs.PathTree.{Step}
use Rattle.jsonb.specs.declared.selector.limited.LimitError.{LimitError}
use Rattle.jsonb.specs.declared.selector.limited.LimitError.TheVariants.{LimitExceeded, Failed}
use Rattle.jsonb.specs.declared.selector.limited.LimitedSelector.{LimitedSelector}

-- What the error prints as.
abbrev pub limit_error_text : LimitError → List ℕ
limit_error_text LimitExceeded = codes "LimitExceeded"
limit_error_text (Failed e) = error_text e

-- Holds if the result is `LimitExceeded`, or this holds for it as a result of the selector.
abbrev pub UnlessExceeded : {A : Type 0} → (Result A Error → Type 0) → Result A LimitError → Type 0
UnlessExceeded Holds (Ok x) = Holds (Ok x)
UnlessExceeded Holds (Err (Failed e)) = Holds (Err e)
UnlessExceeded Holds (Err LimitExceeded) = ⊤

-- Holds if a call leaves the selector unchanged, and fails with `LimitExceeded` if and only if the bound of the path is
-- above the limit, unless an allocation fails.
pub record IsLimited {A : Type 0} (old new : LimitedSelector) (path : List Step) (answer : Result A LimitError)
    : Type 0 where
  pub kept : new ≡ old
  pub exceeded : IsErrOf answer LimitExceeded → old.limit < most_items old.size path
  pub refused : old.limit < most_items old.size path
      → IsErrAnd answer (λ e. (e ≡ LimitExceeded) ⊎ (e ≡ Failed OutOfMemory))
