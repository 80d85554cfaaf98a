-- Documents built from events, with a builder that a handle keeps.
use Rattle.std.specs.Prelude.{◌≡◌, ◌⊎◌, ℕ, Bool, List, Option, Some, None, IsSome, Result, Ok, Err, IfOk, IfErr, IsOkAnd, MatchOption, MatchResult}
use Rattle.jsonb_doc.specs.Answer.{IsOutOfMemory}
use Rattle.jsonb_doc.specs.DocumentBuilder.{IsFailureAt}
use Rattle.jsonb_doc.specs.Representation.DocumentBuilder.{Holds}
use Rattle.jsonb_doc.specs.EventList.{AreEventsOf, FailsWith}
use Rattle.jsonb_doc.specs.Events.{root, Event, State, next, no_events, whole}
use Rattle.jsonb_doc.specs.Format.{Decodes}
use Rattle.jsonb_doc.specs.Payload.{Form}
use Rattle.jsonb_doc.specs.Tree.{Tree}
use Rattle.jsonb_doc.specs.declared.error.Error.TheVariants.{OutOfMemory}
use Rattle.jsonb_doc.specs.declared.event_error.EventError.{EventError}
use Rattle.jsonb_doc.specs.declared.event_error.EventError.TheVariants.{Failed}
use Rattle.jsonb_doc.specs.declared.event_error.EventError.TheVariants as refusal
use Rattle.jsonb_doc.specs.declared.text_event.TextEvent.{TextEvent}
use Rattle.jsonb_c.specs.Representation.Prepared.{items_left, json_steps, key_steps}
use Rattle.jsonb_c.specs.Answers.{DeliversBytes, DeliversNothing, DeliversValue, ShowsNothing, WritesResult}
use Rattle.jsonb_c.specs.Status.{code}
use Rattle.jsonb_c.specs.declared.status.Status.TheVariants.{Answered, NoPath, OutOfOrder, Refused}
use Rattle.jsonb_c.specs.declared.prepared.path.PreparedPath.{PreparedPath}
use Rattle.jsonb_c.specs.declared.prepared.path.PreparedPath.TheVariants.{Events}

-- Holds if the handle keeps a builder in this state, or nothing, before the first event.
abbrev pub HoldsEvents : Form → Option PreparedPath → State → Type 0
HoldsEvents form None s = s ≡ no_events
HoldsEvents form (Some (Events builder)) s = Holds form builder s
HoldsEvents form _ s = ⊥

-- Holds if the handle keeps a path or items.
abbrev pub KeepsOther : Option PreparedPath → Type 0
KeepsOther kept = IsSome (json_steps kept) ⊎ IsSome (key_steps kept) ⊎ IsSome (items_left kept)

-- ---- an event

-- The status of an error.
abbrev pub event_status : EventError → ℕ
event_status refusal.OutOfOrder = code OutOfOrder
event_status (refusal.Failed e) = code (Refused e)

-- Holds if the handle and the status are those after an event with this meaning. After an error the handle has the
-- state `before` the event.
abbrev pub TakesEvent : Form → State → Result State EventError → ℕ → Option PreparedPath → Type 0
TakesEvent form before meaning status kept =
    IsOkAnd meaning (λ after. (status ≡ code Answered) × HoldsEvents form kept after)
    ⊎ (HoldsEvents form kept before × ((e : EventError) × (status ≡ event_status e)
    × MatchResult meaning (λ after. IsFailureAt form after.inner e) (λ d. (e ≡ d) ⊎ (e ≡ refusal.Failed OutOfMemory))))

-- Holds if the event was passed to the builder. A handle that keeps a path or items is unchanged.
pub record Follows (form : Form) (event : Event) (old new : Option PreparedPath) (status : ℕ) : Type 0 where
  pub takes : (s : State) → HoldsEvents form old s → TakesEvent form s (next event s) status new
  pub other : KeepsOther old → ShowsNothing old new status NoPath

-- ---- the document

-- Holds if the document of the events is delivered. Nothing is if the root is not complete, or the handle keeps a path
-- or items.
pub record Finishes (kept : Option PreparedPath) (old new : List ℕ) (len status : ℕ) : Type 0 where
  pub document : (form : Form) (s : State) → HoldsEvents form kept s
      → MatchOption (whole s.inner) (DeliversNothing old new len status OutOfOrder)
      (λ t. WritesResult (λ answer. MatchResult answer (λ made. Decodes form made t) IsOutOfMemory) IsOutOfMemory
      (DeliversValue old new len status))
  pub other : KeepsOther kept → DeliversNothing old new len status NoPath

-- ---- a list of events

-- Holds if the result is the document of the list, or an error of the list or of its document.
pub record MakesDocumentOf (keep_last : Bool) (events : List TextEvent) (text : List ℕ)
    (r : Result (List ℕ) EventError) : Type 0 where
  pub document : (form : Form) → IfOk r (λ v. (t : Tree) × AreEventsOf keep_last events text t × Decodes form v t)
  pub complete : (form : Form) (t : Tree) → AreEventsOf keep_last events text t
      → MatchResult r (λ v. Decodes form v t) (IsFailureAt form (root (Some t)))
  pub errors : (form : Form) → IfErr r (FailsWith form keep_last events text)

-- Holds if the document is delivered, or nothing, with the status of the error.
abbrev pub DeliversAnswer : List ℕ → List ℕ → ℕ → ℕ → Result (List ℕ) EventError → Type 0
DeliversAnswer old new len status (Ok made) = DeliversBytes old new len status made
DeliversAnswer old new len status (Err e) = (len ≡ 0) × (new ≡ old) × (status ≡ event_status e)
