-- What the builder of documents holds.
use Rattle.std.specs.Prelude.{◌≡◌, ◌⊎◌, Result, Ok, Err, MatchResult}
use Rattle.jsonb_doc.specs.Payload.{Form}
use Rattle.jsonb_doc.specs.Limits.{IsTooLarge}
use Rattle.jsonb_doc.specs.Events.{Level, State, so_far}
use Rattle.jsonb_doc.specs.declared.error.Error.TheVariants.{OutOfMemory, TooLarge}
use Rattle.jsonb_doc.specs.declared.event_error.EventError.{EventError}
use Rattle.jsonb_doc.specs.declared.event_error.EventError.TheVariants.{Failed}
use Rattle.jsonb_doc.specs.declared.document_builder.DocumentBuilder.{DocumentBuilder}
use Rattle.jsonb_doc.specs.Representation.DocumentBuilder.{Holds}

-- Holds if an allocation failed, or the error is `TooLarge` and documents of what the level has exceed the limits.
abbrev pub IsFailureAt : Form → Level → EventError → Type 0
IsFailureAt form level e = (e ≡ Failed OutOfMemory) ⊎ ((e ≡ Failed TooLarge) × IsTooLarge form (so_far level))

-- Holds if the result is that of an event which leads to `after`: then the builder has it. After an error the builder
-- has the state `before` the event.
abbrev pub Takes : Form → State → Result State EventError → Result (Unit {0}) EventError → DocumentBuilder → Type 0
Takes form before (Ok after) result b =
    MatchResult result (λ _. Holds form b after) (λ e. Holds form b before × IsFailureAt form after.inner e)
Takes form before (Err e) result b = (result ≡ Err e) × Holds form b before
