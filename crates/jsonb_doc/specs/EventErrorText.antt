-- What the error of an event prints as.
use Rattle.std.specs.Prelude.{ℕ, List, codes}
use Rattle.jsonb_doc.specs.ErrorText.{error_text}
use Rattle.jsonb_doc.specs.declared.event_error.EventError.{EventError}
use Rattle.jsonb_doc.specs.declared.event_error.EventError.TheVariants.{OutOfOrder, Failed}

abbrev pub event_error_text : EventError → List ℕ
event_error_text OutOfOrder = codes "OutOfOrder"
event_error_text (Failed e) = error_text e
