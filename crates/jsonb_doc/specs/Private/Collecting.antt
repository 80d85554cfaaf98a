-- What the collector of events holds. The pairs of an open object are in the order of the events.
use Rattle.std.specs.Prelude.{◌≡◌, ◌⊎◌, ℕ, suc, ◌<◌, Bool, true, false, List, [], ◌∷◌, ◌++◌, length, map, Some, None, option_copied, is_some, IsTrue, ⊤, Result, MatchResult}
use Rattle.std.specs.List.{AllZip}
use Rattle.jsonb_doc.specs.Tree.{Tree, array, object, trees_of, pairs_of}
use Rattle.jsonb_doc.specs.ObjectBuilder.{insert_pair}
use Rattle.jsonb_doc.specs.Events.{Level, root, array_of, object_of, State, Event, array_begins, object_begins, key_is, value_is, ends, takes_value}
use Rattle.jsonb_doc.specs.EventList.{Reads}
use Rattle.jsonb_doc.specs.Private.EventParts.{IsPart, HoldParts}
use Rattle.jsonb_doc.specs.Private.Unique.{as_pair}
use Rattle.jsonb_doc.specs.declared.error.Error.TheVariants.{OutOfMemory, ObjectDuplicateKey}
use Rattle.jsonb_doc.specs.declared.event_error.EventError.{EventError}
use Rattle.jsonb_doc.specs.declared.event_error.EventError.TheVariants.{OutOfOrder, Failed}
use Rattle.jsonb_doc.specs.declared.text_event.TextEvent.{TextEvent}
use Rattle.jsonb_doc.specs.declared.layout.HeaderKind.{HeaderKind}
use Rattle.jsonb_doc.specs.declared.layout.HeaderKind.TheVariants.{Scalar, Object, Array}
use Rattle.jsonb_doc.specs.declared.event_list.collecting.Run.{Run}
use Rattle.jsonb_doc.specs.declared.event_list.collecting.Part.TheVariants.{Nested}
use Rattle.jsonb_doc.specs.declared.event_list.collecting.Member.{Member}
use Rattle.jsonb_doc.specs.declared.event_list.collecting.Frame.{Frame}
use Rattle.jsonb_doc.specs.declared.event_list.collecting.Collector.{Collector}

-- ---- events one after the other

-- Pairs, with others inserted one after the other.
abbrev pub insert_all : {A : Type 0} → List (List ℕ × A) → List (List ℕ × A) → List (List ℕ × A)
insert_all ps [] = ps
insert_all ps (q ∷ qs) = insert_all (insert_pair q.0 q.1 ps) qs

-- The level with a value.
abbrev pub appended : Tree → Level → Level
appended t (root _) = root (Some t)
appended t (array_of ts) = array_of (ts ++ t ∷ [])
appended t (object_of ps (Some key)) = object_of (ps ++ (key, t) ∷ []) None
appended t (object_of ps None) = object_of ps None

-- Holds if the container of the level may end, and this is its tree.
abbrev pub EndsAs : Bool → Level → Tree → Type 0
EndsAs keep_last (array_of ts) t = t ≡ array (trees_of ts)
EndsAs keep_last (object_of ps None) t =
    (t ≡ object (pairs_of (insert_all [] ps))) × (keep_last ≡ false → length (insert_all [] ps) ≡ length ps)
EndsAs keep_last _ t = ⊥

-- Holds if a value may come next, and this is the state with it.
abbrev pub TakesTree : Tree → Level → List Level → State → Type 0
TakesTree t level around after =
    IsTrue (takes_value level) × (after ≡ record { inner = appended t level; around = around })

-- Holds if a container may begin, and this is the state in it.
abbrev pub Opens : Level → State → State → Type 0
Opens level before after =
    IsTrue (takes_value before.inner) × (after ≡ record { inner = level; around = before.inner ∷ before.around })

-- Holds if the event may come next in the first state, and leads to the second one.
abbrev pub LeadsTo : Bool → Event → State → State → Type 0
LeadsTo keep_last array_begins before after = Opens (array_of []) before after
LeadsTo keep_last object_begins before after = Opens (object_of [] None) before after
LeadsTo keep_last (key_is key) before after =
    (ps : List (List ℕ × Tree)) × (before.inner ≡ object_of ps None)
    × (after ≡ record { inner = object_of ps (Some key); around = before.around })
LeadsTo keep_last (value_is t) before after = TakesTree t before.inner before.around after
LeadsTo keep_last ends before after =
    (t : Tree) × (outer : Level) × (around : List Level) × EndsAs keep_last before.inner t
    × (before.around ≡ outer ∷ around) × TakesTree t outer around after

-- Holds if the events lead from the first state to the second one, and leave `rest` of the bytes.
abbrev pub Happen : Bool → List TextEvent → List ℕ → State → List ℕ → State → Type 0
Happen keep_last [] bytes before rest after = (bytes ≡ rest) × (before ≡ after)
Happen keep_last (e ∷ es) bytes before rest after =
    (event : Event) × (left : List ℕ) × (next : State) × Reads e bytes event left × LeadsTo keep_last event before next
    × Happen keep_last es left next rest after

-- Holds if an event may not come next in the state, or the bytes do not begin with its string or its key.
abbrev pub Refuses : Bool → TextEvent → List ℕ → State → Type 0
Refuses keep_last e bytes s =
    (event : Event) → (rest : List ℕ) → (after : State) → Reads e bytes event rest → LeadsTo keep_last event s after → ⊥

-- Holds if an allocation failed, or this is an error for the reason, which is that of each value of `keep_last`. An
-- event out of order is an error with both values, a duplicate key only without `keep_last`.
abbrev pub IsDue : Bool → (Bool → Type 0) → EventError → Type 0
IsDue keep_last Reason e = (e ≡ Failed OutOfMemory)
    ⊎ ((e ≡ OutOfOrder) × Reason true)
    ⊎ ((e ≡ Failed ObjectDuplicateKey) × (keep_last ≡ false) × Reason false × (Reason true → ⊥))

-- ---- the collector

-- Holds if a member has this key and this tree.
abbrev pub IsMemberOf : List Member → Member → List ℕ × Tree → Type 0
IsMemberOf ds m p = (m.key.now ≡ p.0) × IsPart ds (suc (length ds)) m.part p.1

-- Holds if the innermost frame, with these members, has what the level has.
abbrev pub HoldsFrame : List Member → Frame → List Member → Level → Type 0
HoldsFrame ds f ms (root None) = (f.kind ≡ Scalar) × (is_some f.key ≡ true) × (ms ≡ [])
HoldsFrame ds f ms (root (Some t)) =
    (f.kind ≡ Scalar) × (option_copied f.key ≡ None) × HoldParts ds (suc (length ds)) ms (t ∷ [])
HoldsFrame ds f ms (array_of ts) =
    (f.kind ≡ Array) × (option_copied f.key ≡ None) × HoldParts ds (suc (length ds)) ms ts
HoldsFrame ds f ms (object_of ps key) = (f.kind ≡ Object) × (option_copied f.key ≡ key) × AllZip (IsMemberOf ds) ms ps

-- Holds if a frame of this kind, with these members, has what the level has, and the value of this key comes next.
abbrev pub WaitsFor : List Member → HeaderKind → List ℕ → List Member → Level → Type 0
WaitsFor ds Scalar key ms (root None) = ms ≡ []
WaitsFor ds Array key ms (array_of ts) = HoldParts ds (suc (length ds)) ms ts
WaitsFor ds Object key ms (object_of ps (Some name)) = (key ≡ name) × AllZip (IsMemberOf ds) ms ps
WaitsFor ds _ key ms _ = ⊥

-- Holds if the members before those of a frame of this kind are of these levels. The last one is the container of the
-- frame: it has the kind of the frame around, and where its members begin.
abbrev pub AreAround : List Member → HeaderKind → List Member → List Level → Type 0
AreAround ds Scalar before ls = (before ≡ []) × (ls ≡ [])
AreAround ds _ before [] = ⊥
AreAround ds _ before (l ∷ ls) =
    (earlier : List Member) × (ms : List Member) × (m : Member) × (run : Run) × (before ≡ (earlier ++ ms) ++ m ∷ [])
    × (m.part ≡ Nested run) × (run.first ≡ length earlier) × WaitsFor ds run.kind m.key.now ms l
    × AreAround ds run.kind earlier ls

-- Holds if these members of an object came to the others, sorted by key.
abbrev pub Keeps : Bool → List Member → List Member → List Member → Type 0
Keeps keep_last old new ms =
    (kept : List Member) × (new ≡ old ++ kept) × (map as_pair kept ≡ insert_all [] (map as_pair ms))
    × (keep_last ≡ false → length kept ≡ length ms)

-- Holds if a key occurs twice, and may not.
abbrev pub IsRepeated : Bool → List Member → Type 0
IsRepeated keep_last ms = (keep_last ≡ false) × (length (insert_all [] (map as_pair ms)) < length ms)

-- Holds if members of a container of this kind are none of a container.
abbrev pub IsPushRefused : Bool → HeaderKind → List Member → Type 0
IsPushRefused keep_last Array ms = ⊥
IsPushRefused keep_last Object ms = IsRepeated keep_last ms
IsPushRefused keep_last Scalar ms = ⊤

-- Holds if these members of a container of this kind came to the others.
abbrev pub Pushes : Bool → HeaderKind → List Member → List Member → List Member → Type 0
Pushes keep_last Array old new ms = new ≡ old ++ ms
Pushes keep_last Object old new ms = Keeps keep_last old new ms
Pushes keep_last Scalar old new ms = ⊥

-- Holds if the container of the level has ended: its members are those that came to the others, in this run.
pub record Ends (keep_last : Bool) (old new : List Member) (level : Level) (run : Run) : Type 0 where
  pub t : Tree
  pub more : List Member
  pub ends_as : EndsAs keep_last level t
  pub joined : new ≡ old ++ more
  pub part : IsPart new (suc (length new)) (Nested run) t

-- Holds if the collector has the state.
pub record HoldsState (c : Collector) (s : State) : Type 0 where
  pub before : List Member
  pub ms : List Member
  pub joined : c.unfinished.items ≡ before ++ ms
  pub start : c.inner.start ≡ length before
  pub inner : HoldsFrame c.ended.items c.inner ms s.inner
  pub around : AreAround c.ended.items c.inner.kind before s.around

-- Holds if the collector has one of the next states. That there is none is the reason of an error.
abbrev pub MovesTo : Bool → (Bool → State → Type 0) → Collector → Result (Unit {0}) EventError → Type 0
MovesTo keep_last IsNext c r =
    MatchResult r (λ _. (after : State) × IsNext keep_last after × HoldsState c after)
    (IsDue keep_last (λ last. (after : State) → IsNext last after → ⊥))
