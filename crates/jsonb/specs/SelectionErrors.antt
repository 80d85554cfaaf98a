-- The results of a selection on any bytes, whether they decode or not.
use Rattle.std.specs.Prelude.{◌⊎◌, ⊤}
use Rattle.jsonb_doc.specs.declared.error.Error.{Error}
use Rattle.jsonb_doc.specs.declared.error.Error.TheVariants.{InvalidJsonPath, Arithmetic, StrictPath, OutOfMemory}
use Rattle.jsonb_doc.specs.Answer.{IsDecodingError, ◌or◌}
use Rattle.jsonb.specs.declared.selector.document.Mode.{Mode}
use Rattle.jsonb.specs.declared.selector.document.Mode.TheVariants.{Strict}

-- Holds for the errors of evaluating a path on a document; `StrictPath` only in strict mode.
abbrev pub IsPathError : Mode → Error → Type 0
IsPathError mode InvalidJsonPath = ⊤
IsPathError mode (Arithmetic fault) = ⊤
IsPathError Strict StrictPath = ⊤
IsPathError mode _ = ⊥

-- Holds for the errors of a path evaluated on any bytes: those of reading them, or of the path.
abbrev pub IsSelectionError : Mode → Error → Type 0
IsSelectionError mode e = (IsDecodingError or OutOfMemory) e ⊎ IsPathError mode e
