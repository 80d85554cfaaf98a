-- Results of the selector as those of calls with a limit.
use Rattle.std.specs.Prelude.{◌≡◌, ◌⊎◌, Result, Ok, Err}
use Rattle.jsonb_doc.specs.declared.error.Error.{Error}
use Rattle.jsonb_doc.specs.declared.error.Error.TheVariants.{OutOfMemory}
use Rattle.jsonb.specs.declared.selector.limited.LimitError.{LimitError}
use Rattle.jsonb.specs.declared.selector.limited.LimitError.TheVariants.{LimitExceeded, Failed}

-- A result of the selector as one of a call with a limit.
abbrev pub lifted : {A : Type 0} → Result A Error → Result A LimitError
lifted (Ok x) = Ok x
lifted (Err e) = Err (Failed e)

-- the error of a path that exceeds the limit
abbrev pub IsRefusal : LimitError → Type 0
IsRefusal e = (e ≡ LimitExceeded) ⊎ (e ≡ Failed OutOfMemory)
