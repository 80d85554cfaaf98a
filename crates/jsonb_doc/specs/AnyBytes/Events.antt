-- The errors of events, also of a document that may not decode.
use Rattle.std.specs.Prelude.{⊤}
use Rattle.jsonb_doc.specs.declared.error.Error.{Error}
use Rattle.jsonb_doc.specs.declared.event_error.EventError.{EventError}
use Rattle.jsonb_doc.specs.declared.event_error.EventError.TheVariants.{OutOfOrder, Failed}

-- Holds if the event cannot come next, or failed with one of these errors.
abbrev pub IsEventError : (Error → Type 0) → EventError → Type 0
IsEventError Errors OutOfOrder = ⊤
IsEventError Errors (Failed e) = Errors e
