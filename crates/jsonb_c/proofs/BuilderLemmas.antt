-- The results of events, as statuses, and what the handle keeps after them.
use Rattle.std.proofs.Common.{◌≡◌, ◌⊎◌, ◌∙◌, true, false, ℕ, List, Vec, Global, ap, inl, inr, refl, Option, Some, None, Result, Ok, Err}
use Rattle.std.specs.Prelude.{IfOk, IfErr, MatchOption, MatchResult, OnErr}
use Rattle.jsonb_doc.specs.Answer.{IsOutOfMemory}
use Rattle.jsonb_doc.specs.Representation.DocumentBuilder.{Holds}
use Rattle.jsonb_doc.specs.DocumentBuilder.{Takes}
use Rattle.jsonb_doc.specs.Events.{Event, State, next, no_events}
use Rattle.jsonb_doc.specs.Format.{Decodes}
use Rattle.jsonb_doc.specs.Payload.{Form}
use Rattle.jsonb_doc.specs.Tree.{Tree}
use Rattle.jsonb_doc.specs.declared.document_builder.DocumentBuilder.{DocumentBuilder}
use Rattle.jsonb_doc.specs.declared.error.Error.TheVariants.{OutOfMemory}
use Rattle.jsonb_doc.specs.declared.event_error.EventError.{EventError}
use Rattle.jsonb_doc.specs.declared.event_error.EventError.TheVariants.{OutOfOrder, Failed}
use Rattle.jsonb_c.specs.Answers.{DeliversBytes, DeliversNothing, DeliversValue, WritesResult}
use Rattle.jsonb_c.specs.Builders.{Follows, TakesEvent, event_status}
use Rattle.jsonb_c.specs.Private.Events.{IsKeptOrNew, KeepsState}
use Rattle.jsonb_c.specs.Private.Views.{list_answer}
use Rattle.jsonb_c.specs.Status.{code}
use Rattle.jsonb_c.specs.declared.status.Status.TheVariants.{Answered, Refused}
use Rattle.jsonb_c.specs.declared.status.Status.TheVariants as causes
use Rattle.jsonb_c.specs.declared.prepared.path.PreparedPath.{PreparedPath}
use Rattle.jsonb_c.specs.declared.prepared.path.PreparedPath.TheVariants.{Events}

-- a handle without a path and without items
pub keeps_no_other : (false ≡ true) ⊎ (false ≡ true) ⊎ (false ≡ true) → ⊥
keeps_no_other (inl is) = cc
keeps_no_other (inr (inl is)) = cc
keeps_no_other (inr (inr is)) = cc

-- ---- the builder

same_error : (r : Result (Unit {0}) EventError) (e d : EventError) → r ≡ Err e → r ≡ Err d → e ≡ d
same_error r e d is other = cc

status_takes : (form : Form) (s : State) (meaning : Result State EventError) (r : Result (Unit {0}) EventError) (b : DocumentBuilder) (status : ℕ)
    → MatchResult r (λ _. status ≡ code Answered) (λ e. status ≡ event_status e) → Takes form s meaning r b → TakesEvent form s meaning status (Some (Events b))
status_takes form s (Ok after) (Ok x) b status is h = inl (is, h)
status_takes form s (Ok after) (Err e) b status is h = inr (h.0, (e, is, h.1))
status_takes form s (Err d) (Ok x) b status is h = absurd (cc)
status_takes form s (Err d) (Err e) b status is h = inr (h.1, (e, is, inl (same_error (Err e) e d refl h.0)))

pub follows : (form : Form) (event : Event) (old b : DocumentBuilder) (r : Result (Unit {0}) EventError) (status : ℕ)
    → MatchResult r (λ _. status ≡ code Answered) (λ e. status ≡ event_status e) → ((s : State) → Holds form old s → Takes form s (next event s) r b)
    → Follows form event (Some (Events old)) (Some (Events b)) status
follows form event old b r status is h = record {
  takes = λ s held. status_takes form s (next event s) r b status is (h s held);
  other = λ k. absurd (keeps_no_other k);
}

-- after an error the builder has the state before
pub status_kept : (r : Result (Unit {0}) EventError) (status : ℕ) (R : Type 0) → MatchResult r (λ _. status ≡ code Answered) (λ e. status ≡ event_status e)
    → OnErr r R → (status ≡ code Answered → ⊥) → R
status_kept (Ok x) status R is h fails = absurd (fails is)
status_kept (Err e) status R is h fails = h

-- ---- the handle

pub follows_kept : (form : Form) (event : Event) (old : Option PreparedPath) (kept : PreparedPath) (status : ℕ) (new : Option PreparedPath)
    → IsKeptOrNew old kept → Follows form event (Some kept) new status → Follows form event old new status
follows_kept form event (Some x) kept status new is h = rw is at h
follows_kept form event None kept status new is h = record {
  takes = λ s empty. h.takes s (rw empty (is form));
  other = λ k. absurd (keeps_no_other k);
}

pub state_kept : (old : Option PreparedPath) (kept : PreparedPath) (status : ℕ) (new : Option PreparedPath)
    → IsKeptOrNew old kept → KeepsState (Some kept) status new → KeepsState old status new
state_kept (Some x) kept status new is h = rw is at h
state_kept None kept status new is h = λ form s empty fails. h form s (rw empty (is form)) fails

out_of_memory : (form : Form) (s : State) (meaning : Result State EventError) (status : ℕ) → status ≡ code (Refused OutOfMemory) → s ≡ no_events
    → TakesEvent form s meaning status None
out_of_memory form s (Ok after) status is empty = inr (empty, (Failed OutOfMemory, is, inl refl))
out_of_memory form s (Err d) status is empty = inr (empty, (Failed OutOfMemory, is, inr refl))

-- before the first event, an allocation fails
pub fails_first : (form : Form) (event : Event) (status : ℕ) → status ≡ code (Refused OutOfMemory) → Follows form event None None status
fails_first form event status is = record {
  takes = λ s empty. out_of_memory form s (next event s) status is empty;
  other = λ k. absurd (keeps_no_other k);
}

-- ---- the document

-- a document of the tree is delivered; without a tree the root is not complete
abbrev WritesWhole : Form → Option Tree → List ℕ → List ℕ → ℕ → ℕ → Type 0
WritesWhole form found old new len status =
    MatchOption found (DeliversNothing old new len status causes.OutOfOrder)
    (λ t. WritesResult (λ answer. MatchResult answer (λ made. Decodes form made t) IsOutOfMemory) IsOutOfMemory
    (DeliversValue old new len status))

pub finish_writes : (form : Form) (found : Option Tree) (r : Result (Vec ℕ Global) EventError) (made : Vec ℕ Global) (old new : List ℕ) (len status : ℕ)
    → r ≡ Ok made → MatchOption found (r ≡ Err OutOfOrder) (λ t. MatchResult r (λ v. Decodes form v.items t) (λ e. e ≡ Failed OutOfMemory))
    → DeliversBytes old new len status made.items → WritesWhole form found old new len status
finish_writes form None r made old new len status is h written = absurd (cc)
finish_writes form (Some t) r made old new len status is h written =
    let decodes : Decodes form made.items t = rw is at h in (Ok made.items, decodes, tt, written)

pub finish_fails : (form : Form) (found : Option Tree) (r : Result (Vec ℕ Global) EventError) (e : EventError) (old : List ℕ) (len status : ℕ)
    → r ≡ Err e → MatchOption found (r ≡ Err OutOfOrder) (λ t. MatchResult r (λ v. Decodes form v.items t) (λ e. e ≡ Failed OutOfMemory))
    → len ≡ 0 → status ≡ event_status e → WritesWhole form found old old len status
finish_fails form None r e old len status is h none failed =
    let same : e ≡ OutOfOrder = cc in (none, refl, failed ∙ ap event_status same)
finish_fails form (Some t) r e old len status is h none failed =
    let same : e ≡ Failed OutOfMemory = rw is at h in (Err OutOfMemory, refl, refl, (none, refl, failed ∙ ap event_status same))

-- ---- the document of a list

pub list_makes : (P : List ℕ → Type 0) (r : Result (Vec ℕ Global) EventError) → IfOk r (λ made. P made.items) → IfOk (list_answer r) P
list_makes P (Ok made) h = h
list_makes P (Err e) h = h

pub list_fails : (Q : EventError → Type 0) (r : Result (Vec ℕ Global) EventError) → IfErr r Q → IfErr (list_answer r) Q
list_fails Q (Ok made) h = h
list_fails Q (Err e) h = h

pub list_matches : (P : List ℕ → Type 0) (Q : EventError → Type 0) (r : Result (Vec ℕ Global) EventError) → MatchResult r (λ made. P made.items) Q
    → MatchResult (list_answer r) P Q
list_matches P Q (Ok made) h = h
list_matches P Q (Err e) h = h
