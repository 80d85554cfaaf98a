-- Events that calls pass to a builder.
use Rattle.std.specs.Prelude.{◌≡◌, ℕ, Option, Some, None}
use Rattle.jsonb_doc.specs.Events as spec
use Rattle.jsonb_doc.specs.Events.{State}
use Rattle.jsonb_doc.specs.Format.{Decodes}
use Rattle.jsonb_doc.specs.Item.{StandsFor}
use Rattle.jsonb_doc.specs.Payload.{Form}
use Rattle.jsonb_doc.specs.Tree.{Tree}
use Rattle.jsonb_c.specs.Builders.{HoldsEvents}
use Rattle.jsonb_c.specs.Status.{code}
use Rattle.jsonb_c.specs.declared.status.Status.TheVariants.{Answered}
use Rattle.jsonb_c.specs.declared.builder.events.Event.{Event}
use Rattle.jsonb_c.specs.declared.builder.events.Event.TheVariants.{BeginArray, BeginObject, Key, Value, Document, End}
use Rattle.jsonb_c.specs.declared.prepared.path.PreparedPath.{PreparedPath}

-- the event means this one
abbrev pub IsEvent : Form → Event → spec.Event → Type 0
IsEvent form BeginArray e = e ≡ spec.array_begins
IsEvent form BeginObject e = e ≡ spec.object_begins
IsEvent form (Key name) e = e ≡ spec.key_is name.now
IsEvent form (Value item) e = (t : Tree) × (e ≡ spec.value_is t) × StandsFor form item t
IsEvent form (Document bytes) e = (t : Tree) × (e ≡ spec.value_is t) × Decodes form bytes.now t
IsEvent form End e = e ≡ spec.ends

-- it is what the handle keeps; if that is nothing, it is a builder before the first event
abbrev pub IsKeptOrNew : Option PreparedPath → PreparedPath → Type 0
IsKeptOrNew (Some kept) it = it ≡ kept
IsKeptOrNew None it = (form : Form) → HoldsEvents form (Some it) spec.no_events

-- a call that fails leaves the builder in its state
abbrev pub KeepsState : Option PreparedPath → ℕ → Option PreparedPath → Type 0
KeepsState old status new =
    (form : Form) (s : State) → HoldsEvents form old s → (status ≡ code Answered → ⊥) → HoldsEvents form new s
