-- Lists of events: which events they are, and of which tree.
use Rattle.std.specs.Prelude.{◌≡◌, ◌⊎◌, ℕ, ℤ, ◌^◌, Bool, true, false, List, [], ◌∷◌, ◌++◌, length, take, pos, ◌+ℤ◌, ◌*ℤ◌, Some, None, Result, Ok, Err, IsOkAnd, IsUtf8, ⊤, Option, if◌then◌else◌, ◌==◌}
use Rattle.jsonb_doc.specs.Number.{int64, uint64, decimal64, decimal128, number_from}
use Rattle.jsonb_doc.specs.Tree.{Tree, null, boolean, number, text}
use Rattle.jsonb_doc.specs.Payload.{Form}
use Rattle.jsonb_doc.specs.Limits.{IsTooLarge}
use Rattle.jsonb_doc.specs.Events.{Level, object_of, State, Event, array_begins, object_begins, key_is, value_is, ends, no_events, with_inner, next, whole}
use Rattle.jsonb_doc.specs.declared.event_error.EventError.{EventError}
use Rattle.jsonb_doc.specs.declared.event_error.EventError.TheVariants.{OutOfOrder, Failed}
use Rattle.jsonb_doc.specs.declared.text_event.TextEvent.{TextEvent}
use Rattle.jsonb_doc.specs.declared.error.Error.TheVariants.{OutOfMemory, ObjectDuplicateKey, TooLarge}

-- The integer of two halves, of which the lower is unsigned.
abbrev pub whole_of : ℤ → ℕ → ℤ
whole_of high low = (high *ℤ pos (2 ^ 64)) +ℤ pos low

-- The tree of a scalar, except for a string.
abbrev pub scalar_of : TextEvent → Option Tree
scalar_of e =
    if e.kind == 0 then Some null
    else if e.kind == 1 then Some (boolean false)
    else if e.kind == 2 then Some (boolean true)
    else if e.kind == 3 then Some (number (number_from int64 e.high 0))
    else if e.kind == 4 then Some (number (number_from uint64 (pos e.low) 0))
    else if e.kind == 5 then Some (number (number_from decimal64 e.high e.scale))
    else if e.kind == 6 then Some (number (number_from decimal128 (whole_of e.high e.low) e.scale))
    else None

-- Holds if the bytes are a string of this length, and `rest`.
abbrev pub BeginWithText : ℕ → List ℕ → List ℕ → List ℕ → Type 0
BeginWithText len bytes s rest = (length s ≡ len) × IsUtf8 s × (bytes ≡ s ++ rest)

-- Holds if this is the event, with a string or a key from the front of the bytes, and `rest` is what it leaves of them.
abbrev pub Reads : TextEvent → List ℕ → Event → List ℕ → Type 0
Reads e bytes (value_is t) rest =
    ((scalar_of e ≡ Some t) × (bytes ≡ rest))
    ⊎ ((s : List ℕ) × (e.kind ≡ 7) × BeginWithText e.low bytes s rest × (t ≡ text s))
Reads e bytes (key_is key) rest = (e.kind ≡ 8) × BeginWithText e.low bytes key rest
Reads e bytes array_begins rest = (e.kind ≡ 9) × (bytes ≡ rest)
Reads e bytes object_begins rest = (e.kind ≡ 10) × (bytes ≡ rest)
Reads e bytes ends rest = (e.kind ≡ 11) × (bytes ≡ rest)

-- Holds if these are the events. Bytes that none of them takes may follow.
abbrev pub AreEvents : List TextEvent → List ℕ → List Event → Type 0
AreEvents [] bytes [] = ⊤
AreEvents (e ∷ es) bytes (event ∷ events) = (rest : List ℕ) × Reads e bytes event rest × AreEvents es rest events
AreEvents _ bytes _ = ⊥

-- The level with a key, which a pair may have already.
abbrev pub with_key_again : List ℕ → Level → Result Level EventError
with_key_again key (object_of ps None) = Ok (object_of ps (Some key))
with_key_again key _ = Err OutOfOrder

-- The state after an event. If `keep_last`, the last value of a duplicate key is kept.
abbrev pub next_of : Bool → Event → State → Result State EventError
next_of true (key_is key) s = with_inner s.around (with_key_again key s.inner)
next_of keep_last event s = next event s

-- The state after events.
abbrev pub after : Bool → List Event → Result State EventError → Result State EventError
after keep_last [] r = r
after keep_last (event ∷ events) (Ok s) = after keep_last events (next_of keep_last event s)
after keep_last (event ∷ events) (Err e) = Err e

-- Holds if the list, with this text, has the events of the tree.
abbrev pub AreEventsOf : Bool → List TextEvent → List ℕ → Tree → Type 0
AreEventsOf keep_last es bytes t =
    (events : List Event) × AreEvents es bytes events
    × IsOkAnd (after keep_last events (Ok no_events)) (λ s. whole s.inner ≡ Some t)

-- Holds if a key of an object is a duplicate, and no event before it is out of order.
abbrev pub HasDuplicateKey : List TextEvent → List ℕ → Type 0
HasDuplicateKey es bytes = (count : ℕ) × (events : List Event) × AreEvents (take count es) bytes events
    × (after false events (Ok no_events) ≡ Err (Failed ObjectDuplicateKey))

-- Holds if an allocation failed, or this is an error of the list or of its document.
abbrev pub FailsWith : Form → Bool → List TextEvent → List ℕ → EventError → Type 0
FailsWith form keep_last es bytes e = (e ≡ Failed OutOfMemory)
    ⊎ ((e ≡ OutOfOrder) × ((t : Tree) → AreEventsOf true es bytes t → ⊥))
    ⊎ ((e ≡ Failed ObjectDuplicateKey) × (keep_last ≡ false) × HasDuplicateKey es bytes)
    ⊎ ((e ≡ Failed TooLarge) × (t : Tree) × AreEventsOf keep_last es bytes t × IsTooLarge form t)
