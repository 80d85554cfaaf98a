-- Lists of events: pairs in their order and sorted are the same states, events lead to at most one state, and which errors lists have.
use Rattle.jsonb_doc.proofs.Common.{common_steps, ◌≡◌, ℕ, ◌+◌, ◌≤◌, List, [], ◌∷◌, ◌++◌, length, map, refl, sym, ap, subst, ◌∙◌, arith, Bool, true, false, Some, None, Option, nat_cmp, IsTrue, Result, Ok, Err, IsOkAnd, ⊤, if◌then◌else◌, slice_cmp, IsStrictlySortedBy, keys_of, true≢false, Tree, has_key, insert_pair, Level, root, array_of, object_of, State, Event, array_begins, object_begins, key_is, value_is, ends, no_events, takes_value, filled, container, whole, within, with_inner, with_key, with_value, closed, AreEvents, with_key_again, next_of, AreEventsOf, insert_all, appended, TakesTree, Opens, LeadsTo, Happen, EventError, OutOfOrder, Failed, ObjectDuplicateKey, TextEvent, take, drop, ◌==◌, IsSome, take_at, drop_at, text, scalar_of, Reads, Refuses, Form, StandsFor, IsPlain, IsPlainItem, Item, ◌⊎◌, suc, inl, inr, IsTooLarge, HasDuplicateKey, FailsWith, IsDue, IsOutOfMemoryOrTooLarge, Error, OutOfMemory, TooLarge}
use Rattle.jsonb_doc.specs.EventList as lists
use Rattle.jsonb_doc.proofs.ObjectLemmas.{length-inserted}
use Rattle.jsonb_doc.proofs.UniqueLemmas.{rise_inserted, none_rise, one_more}
use Rattle.jsonb_doc.proofs.CollectingLemmas.{due_along, due_anyway}

-- ---- pairs that are new

-- Holds if none of these pairs has a key of those before it.
abbrev pub AreNew : List (List ℕ × Tree) → List (List ℕ × Tree) → Type 0
AreNew ps [] = ⊤
AreNew ps (q ∷ qs) = (has_key q.0 ps ≡ false) × AreNew (insert_pair q.0 q.1 ps) qs

insert_more : (ps qs : List (List ℕ × Tree)) (q : List ℕ × Tree) → insert_all ps (qs ++ q ∷ []) ≡ insert_pair q.0 q.1 (insert_all ps qs)
insert_more ps [] q = refl
insert_more ps (p ∷ qs) q = insert_more (insert_pair p.0 p.1 ps) qs q

more_new : (ps qs : List (List ℕ × Tree)) (q : List ℕ × Tree) → AreNew ps (qs ++ q ∷ []) → AreNew ps qs × (has_key q.0 (insert_all ps qs) ≡ false)
more_new ps [] q new = (tt, new.0)
more_new ps (p ∷ qs) q new = grind (arith, more_new (insert_pair p.0 p.1 ps) qs q new.1)

all_more : (ps qs : List (List ℕ × Tree)) → IsStrictlySortedBy (slice_cmp nat_cmp) (keys_of ps) → (length (insert_all ps qs) ≤ length ps + length qs)
    × (length ps + length qs ≤ length (insert_all ps qs) → AreNew ps qs)
all_more ps [] rise = (omega arith, λ le. tt)
all_more ps (q ∷ qs) rise = grind (arith, all_more (insert_pair q.0 q.1 ps) qs (rise_inserted q.0 q.1 ps rise), one_more, rise_inserted)

-- ---- levels with sorted pairs

abbrev pub sorted : Level → Level
sorted (object_of ps key) = object_of (insert_all [] ps) key
sorted (root t) = root t
sorted (array_of ts) = array_of ts

abbrev pub sorted_levels : List Level → List Level
sorted_levels ls = map sorted ls

abbrev pub sorted_state : State → State
sorted_state s = record { inner = sorted s.inner; around = sorted_levels s.around }

takes_sorted : (level : Level) → takes_value (sorted level) ≡ takes_value level
takes_sorted level = grind arith

value_sorted : (t : Tree) (level : Level) (around : List Level) (s : State) → TakesTree t level around s
    → with_value t (sorted level) ≡ Ok (sorted s.inner)
value_sorted t level around s h = grind (arith, takes_sorted, insert_more)

-- ---- keys that are new

-- Holds if no key of the level is a duplicate.
abbrev pub IsNew : Level → Type 0
IsNew (object_of ps None) = AreNew [] ps
IsNew (object_of ps (Some key)) = AreNew [] ps × (has_key key (insert_all [] ps) ≡ false)
IsNew _ = ⊤

abbrev pub AreAllNew : List Level → Type 0
AreAllNew [] = ⊤
AreAllNew (l ∷ ls) = IsNew l × AreAllNew ls

abbrev pub IsNewState : State → Type 0
IsNewState s = IsNew s.inner × AreAllNew s.around

new_before : (t : Tree) (level : Level) → IsTrue (takes_value level) → IsNew (appended t level) → IsNew level
new_before t (object_of ps (Some key)) takes new = more_new [] ps (key, t) new
new_before t _ takes new = grind arith

-- ---- events

-- Holds if the event leads to the state, with sorted pairs.
abbrev Leads : Bool → Event → State → State → Type 0
Leads keep_last e s s' = next_of keep_last e (sorted_state s) ≡ Ok (sorted_state s')

opened : (level : Level) (s s' : State) → sorted level ≡ level → Opens level s s' → within level (sorted_state s) ≡ Ok (sorted_state s')
opened level s s' same h = rw (takes_sorted s.inner, h.0, h.1, same) refl

ended : (keep_last : Bool) (s s' : State) → LeadsTo keep_last ends s s' → closed (container (sorted s.inner)) (sorted_levels s.around) ≡ Ok (sorted_state s')
ended keep_last s s' h = grind (arith, h.5, h.4, value_sorted h.0 h.1 h.2 s' h.5)

-- if the last value of a key is kept
pub leads_last : (e : Event) (s s' : State) → LeadsTo true e s s' → Leads true e s s'
leads_last array_begins s s' h = opened (array_of []) s s' refl h
leads_last object_begins s s' h = opened (object_of [] None) s s' refl h
leads_last (key_is key) s s' h = rw (h.1, h.2) refl
leads_last (value_is t) s s' h = rw (value_sorted t s.inner s.around s' h, h.1) refl
leads_last ends s s' h = ended true s s' h

-- if all keys are new
pub leads_new : (e : Event) (s s' : State) → LeadsTo false e s s' → IsNewState s' → IsNewState s × Leads false e s s'
leads_new array_begins s s' h new = grind (arith, opened)
leads_new object_begins s s' h new = grind (arith, opened)
leads_new (key_is key) s s' h new = grind arith
leads_new (value_is t) s s' h new =
    let old = subst IsNewState h.1 new in
    ((new_before t s.inner h.0 old.0, old.1), rw (value_sorted t s.inner s.around s' h, h.1) refl)
leads_new ends s s' h new =
    let takes = h.5 in
    let old = subst IsNewState takes.1 new in (
      (grind (arith, all_more, none_rise), subst AreAllNew (sym h.4) (new_before h.0 h.1 takes.0 old.0, old.1)),
      ended false s s' h,
    )

-- ---- all events

pub record AreAll (keep_last : Bool) (es : List TextEvent) (bytes : List ℕ) (s s' : State) : Type 0 where
  pub events : List Event
  pub are : AreEvents es bytes events
  pub leads : lists.after keep_last events (Ok (sorted_state s)) ≡ Ok (sorted_state s')

pub all_last : (es : List TextEvent) (bytes : List ℕ) (s : State) (rest : List ℕ) (s' : State) → Happen true es bytes s rest s' → AreAll true es bytes s s'
all_last [] bytes s rest s' h = record { events = []; are = tt; leads = ap (λ (x : State). Ok (sorted_state x)) h.1 }
all_last (e ∷ es) bytes s rest s' h =
    let more = all_last es h.1 h.2 rest s' h.5 in
    record {
      events = h.0 ∷ more.events;
      are = (h.1, h.3, more.are);
      leads = rw (leads_last h.0 s h.2 h.4) more.leads;
    }

all_new : (es : List TextEvent) (bytes : List ℕ) (s : State) (rest : List ℕ) (s' : State) → Happen false es bytes s rest s' → IsNewState s'
    → IsNewState s × AreAll false es bytes s s'
all_new [] bytes s rest s' h new = (subst IsNewState (sym h.1) new, record { events = []; are = tt; leads = ap (λ (x : State). Ok (sorted_state x)) h.1 })
all_new (e ∷ es) bytes s rest s' h new =
    let more = all_new es h.1 h.2 rest s' h.5 new in
    let first = leads_new h.0 s h.2 h.4 more.0 in (
      first.0,
      record {
        events = h.0 ∷ more.1.events;
        are = (h.1, h.3, more.1.are);
        leads = rw first.1 more.1.leads;
      },
    )

pub complete : (keep_last : Bool) (es : List TextEvent) (bytes : List ℕ) (s : State) (t : Tree) → whole s.inner ≡ Some t → AreAll keep_last es bytes no_events s
    → AreEventsOf keep_last es bytes t
complete keep_last es bytes s t is all = (all.events, all.are, rw all.leads (grind arith))

-- events that lead to a complete root are those of its tree
pub events_of : (keep_last : Bool) (es : List TextEvent) (bytes : List ℕ) (rest : List ℕ) (s : State) (t : Tree) → Happen keep_last es bytes no_events rest s
    → whole s.inner ≡ Some t → s.around ≡ [] → AreEventsOf keep_last es bytes t
events_of true es bytes rest s t h is none = complete true es bytes s t is (all_last es bytes no_events rest s h)
events_of false es bytes rest s t h is none = grind (arith, complete, all_new)

-- ---- events that lead on

pub record LeadsBack (keep_last : Bool) (e : Event) (s after : State) : Type 0 where
  pub state : State
  pub leads : LeadsTo keep_last e s state
  pub is : after ≡ sorted_state state
  pub new : keep_last ≡ false → IsNewState state

abbrev ok_or : {A E : Type 0} → A → Result A E → A
ok_or x (Ok y) = y
ok_or x (Err e) = x

pub not_ok : (e : EventError) (s : State) → Err e ≡ Ok s → ⊥
not_ok e s is = cc

-- a container that begins
within_back : (level : Level) (s after : State) → within level s ≡ Ok after
    → IsTrue (takes_value s.inner) × (after ≡ record { inner = level; around = s.inner ∷ s.around })
within_back level s after h = grind (arith, not_ok)

opens_back : (keep_last : Bool) (e : Event) (level : Level) (s after : State) → sorted level ≡ level → IsNew level
    → ((state : State) → Opens level s state → LeadsTo keep_last e s state) → within level (sorted_state s) ≡ Ok after
    → (keep_last ≡ false → IsNewState s) → LeadsBack keep_last e s after
opens_back keep_last e level s after same fresh leads is new =
    let back = within_back level (sorted_state s) after is in
    record {
      state = record { inner = level; around = s.inner ∷ s.around };
      leads = leads _ (rw (takes_sorted s.inner) at back.0, refl);
      is = back.1 ∙ rw same refl;
      new = λ ne. (fresh, new ne);
    }

new_more : (ps qs : List (List ℕ × Tree)) (q : List ℕ × Tree) → AreNew ps qs → has_key q.0 (insert_all ps qs) ≡ false → AreNew ps (qs ++ q ∷ [])
new_more ps [] q new none = (none, tt)
new_more ps (p ∷ qs) q new none = (new.0, new_more (insert_pair p.0 p.1 ps) qs q new.1 none)

new_len : (ps qs : List (List ℕ × Tree)) → AreNew ps qs → length (insert_all ps qs) ≡ length ps + length qs
new_len ps [] new = omega arith
new_len ps (q ∷ qs) new = omega (arith, new_len (insert_pair q.0 q.1 ps) qs new.1, length-inserted q.0 q.1 ps new.0)

new_after : (t : Tree) (level : Level) → IsTrue (takes_value level) → IsNew level → IsNew (appended t level)
new_after t level h e = grind (arith, new_more)

takes_back : (t : Tree) (level : Level) (around : List Level) (after : State) → with_inner (sorted_levels around) (with_value t (sorted level)) ≡ Ok after
    → IsTrue (takes_value level) × (after ≡ sorted_state (record { inner = appended t level; around = around }))
takes_back t level around after h = grind (arith, filled, not_ok, takes_sorted, insert_more)

-- a key
key_last : (key : List ℕ) (s after : State) → next_of true (key_is key) (sorted_state s) ≡ Ok after → LeadsBack true (key_is key) s after
key_last key s after = go s.inner refl
  where
    go : (level : Level) → s.inner ≡ level → with_inner (sorted_levels s.around) (with_key_again key (sorted level)) ≡ Ok after
        → LeadsBack true (key_is key) s after
    go (object_of ps None) here is = record {
      state = record { inner = object_of ps (Some key); around = s.around };
      leads = (ps, here, refl);
      is = sym (ap (ok_or after) is);
      new = λ ne. absurd (true≢false ne);
    }
    go _ here is = absurd (not_ok OutOfOrder after is)

key_new : (key : List ℕ) (s after : State) → next_of false (key_is key) (sorted_state s) ≡ Ok after → IsNewState s → LeadsBack false (key_is key) s after
key_new key s after is new = go s.inner refl is
  where
    go : (level : Level) → s.inner ≡ level → with_inner (sorted_levels s.around) (with_key key (sorted level)) ≡ Ok after
        → LeadsBack false (key_is key) s after
    go (object_of ps None) here is = fresh (has_key key (insert_all [] ps)) refl is
      where
        fresh : (b : Bool) → has_key key (insert_all [] ps) ≡ b
            → with_inner (sorted_levels s.around) (if b then Err (Failed ObjectDuplicateKey) else Ok (object_of (insert_all [] ps) (Some key))) ≡ Ok after
            → LeadsBack false (key_is key) s after
        fresh true there is = absurd (not_ok (Failed ObjectDuplicateKey) after is)
        fresh false there is = record {
          state = record { inner = object_of ps (Some key); around = s.around };
          leads = (ps, here, refl);
          is = sym (ap (ok_or after) is);
          new = λ ne. ((rw here at new.0, there), new.1);
        }
    go _ here is = absurd (not_ok OutOfOrder after is)

ends_back : (keep_last : Bool) (s after : State) → closed (container (sorted s.inner)) (sorted_levels s.around) ≡ Ok after
    → (keep_last ≡ false → IsNewState s) → LeadsBack keep_last ends s after
ends_back keep_last s after is new = go (container (sorted s.inner)) s.around refl refl is
  where
    go : (o : Option Tree) (ls : List Level) → container (sorted s.inner) ≡ o → s.around ≡ ls → closed o (sorted_levels ls) ≡ Ok after
        → LeadsBack keep_last ends s after
    go None ls here around is = absurd (not_ok OutOfOrder after is)
    go (Some t) [] here around is = absurd (not_ok OutOfOrder after is)
    go (Some t) (l ∷ ls) here around is =
        let back = takes_back t l ls after is in
        let outer = λ (ne : keep_last ≡ false). subst AreAllNew around (new ne).1 in
        record {
          state = record { inner = appended t l; around = ls };
          leads = (t, l, ls, grind (arith, new_len), around, (back.0, refl));
          is = back.1;
          new = λ ne. (new_after t l back.0 (outer ne).0, (outer ne).1);
        }

value_leads : (keep_last : Bool) (t : Tree) (s after : State) → with_inner (sorted_levels s.around) (with_value t (sorted s.inner)) ≡ Ok after
    → (keep_last ≡ false → IsNewState s) → LeadsBack keep_last (value_is t) s after
value_leads keep_last t s after h e = grind (arith, takes_back, new_after)

pub leads_back : (keep_last : Bool) (e : Event) (s after : State) → next_of keep_last e (sorted_state s) ≡ Ok after → (keep_last ≡ false → IsNewState s)
    → LeadsBack keep_last e s after
leads_back keep_last e s after h k = grind (arith, opens_back, key_last, value_leads, ends_back, key_new)

-- ---- with the other value of `keep_last`

-- events that happen do so if the last value of a key is kept
pub happen_anyway : (keep_last : Bool) (es : List TextEvent) (bytes : List ℕ) (s : State) (rest : List ℕ) (s' : State)
    → Happen keep_last es bytes s rest s' → Happen true es bytes s rest s'
happen_anyway keep_last [] bytes s rest s' h = h
happen_anyway keep_last (e ∷ es) bytes s rest s' h = grind (arith, happen_anyway keep_last es h.1 h.2 rest s' h.5)

-- ---- all events of a tree

pub record Happens (keep_last : Bool) (es : List TextEvent) (bytes : List ℕ) (s after : State) : Type 0 where
  pub rest : List ℕ
  pub state : State
  pub happen : Happen keep_last es bytes s rest state
  pub is : after ≡ sorted_state state
  pub new : keep_last ≡ false → IsNewState state

failed_stays : (keep_last : Bool) (xs : List Event) (e : EventError) → lists.after keep_last xs (Err e) ≡ Err e
failed_stays keep_last [] e = refl
failed_stays keep_last (x ∷ xs) e = refl

pub stuck : (keep_last : Bool) (xs : List Event) (e : EventError) (after : State) → lists.after keep_last xs (Err e) ≡ Ok after → Err e ≡ Ok after
stuck keep_last xs e after is = sym (failed_stays keep_last xs e) ∙ is

pub all_back : (keep_last : Bool) (es : List TextEvent) (bytes : List ℕ) (events : List Event) (s after : State) → AreEvents es bytes events
    → lists.after keep_last events (Ok (sorted_state s)) ≡ Ok after → (keep_last ≡ false → IsNewState s) → Happens keep_last es bytes s after
all_back keep_last [] bytes [] s after are is new = record { rest = bytes; state = s; happen = (refl, refl); is = sym (ap (ok_or after) is); new = new }
all_back keep_last (e ∷ es) bytes (event ∷ events) s after are is new =
    first (next_of keep_last event (sorted_state s)) refl is (λ x leads new. all_back keep_last es are.0 events x after are.2 leads new)
  where
    first : (r : Result State EventError) → next_of keep_last event (sorted_state s) ≡ r → lists.after keep_last events r ≡ Ok after
        → ((x : State) → lists.after keep_last events (Ok (sorted_state x)) ≡ Ok after → (keep_last ≡ false → IsNewState x) → Happens keep_last es are.0 x after)
        → Happens keep_last (e ∷ es) bytes s after
    first (Err failed) leads is more = absurd (not_ok failed after (stuck keep_last events failed after is))
    first (Ok next) leads is more =
        let one = leads_back keep_last event s next leads new in
        let rest = more one.state (subst (λ (x : State). lists.after keep_last events (Ok x) ≡ Ok after) one.is is) one.new in
        record {
          rest = rest.rest;
          state = rest.state;
          happen = (event, are.0, one.state, are.1, one.leads, rest.happen);
          is = rest.is;
          new = rest.new;
        }
all_back keep_last _ bytes _ s after are is new = absurd are

-- the events of a tree lead to it
pub happen_of : (keep_last : Bool) (es : List TextEvent) (bytes : List ℕ) (t : Tree) → AreEventsOf keep_last es bytes t
    → (rest : List ℕ) × (s : State) × Happen keep_last es bytes no_events rest s × (whole s.inner ≡ Some t)
happen_of keep_last es bytes t of = go (lists.after keep_last of.0 (Ok no_events)) refl of.2
  where
    go : (r : Result State EventError) → lists.after keep_last of.0 (Ok no_events) ≡ r → IsOkAnd r (λ s. whole s.inner ≡ Some t)
        → (rest : List ℕ) × (s : State) × Happen keep_last es bytes no_events rest s × (whole s.inner ≡ Some t)
    go (Err e) is h = absurd h
    go (Ok after) is h =
        let back = all_back keep_last es bytes of.0 no_events after of.1 is (λ ne. (tt, tt)) in
        (back.rest, back.state, back.happen, grind arith)

-- ---- one event

abbrev with_kind : ℕ → TextEvent → TextEvent
with_kind kind e = record { low = e.low; high = e.high; kind = kind; scale = e.scale }

-- The event of this scalar, or of this kind, and the bytes that it leaves.
abbrev read_of : Option Tree → ℕ → TextEvent → List ℕ → Event × List ℕ
read_of (Some t) kind e bytes = (value_is t, bytes)
read_of None kind e bytes =
    if kind == 7 then (value_is (text (take e.low bytes)), drop e.low bytes)
    else if kind == 8 then (key_is (take e.low bytes), drop e.low bytes)
    else if kind == 9 then (array_begins, bytes)
    else if kind == 10 then (object_begins, bytes)
    else (ends, bytes)

abbrev read_at : ℕ → TextEvent → List ℕ → Event × List ℕ
read_at kind e bytes = read_of (scalar_of (with_kind kind e)) kind e bytes

same_kind : (e : TextEvent) (bytes : List ℕ) (kind : ℕ) (x : Event × List ℕ) → e.kind ≡ kind → x ≡ read_at kind e bytes → x ≡ read_at e.kind e bytes
same_kind e bytes kind x is same = same ∙ sym (ap (λ (k : ℕ). read_at k e bytes) is)

-- an event of such a kind is a scalar
pub plain_exists : (e : TextEvent) → e.kind ≤ 6 → (t : Tree) × IsPlain e t
plain_exists e le = found (scalar_of e) refl (go e.kind le)
  where
    go : (kind : ℕ) → kind ≤ 6 → IsSome (scalar_of (with_kind kind e))
    go kind h = grind arith

    found : (o : Option Tree) → scalar_of e ≡ o → IsSome o → (t : Tree) × IsPlain e t
    found (Some t) is some = (t, is)
    found None is some = let bad : false ≡ true = some in absurd (cc)

reads_is : (e : TextEvent) (bytes : List ℕ) (event : Event) (rest : List ℕ) → Reads e bytes event rest → (event, rest) ≡ read_at e.kind e bytes
reads_is e bytes event rest h = grind (arith, take_at, drop_at, same_kind)

pub one_read : (e : TextEvent) (bytes : List ℕ) (event other : Event) (rest left : List ℕ) → Reads e bytes event rest → Reads e bytes other left
    → (event ≡ other) × (rest ≡ left)
one_read e bytes event other rest left h k = grind (arith, reads_is)

-- a scalar stands for its tree
pub plain_stands : (form : Form) (item : Item) (t : Tree) → IsPlainItem item t → StandsFor form item t
plain_stands form item t h = grind arith

-- ---- states

-- the same events lead to the same state
pub one_run : (keep_last : Bool) (es : List TextEvent) (bytes : List ℕ) (s : State) (rest left : List ℕ) (after other : State)
    → Happen keep_last es bytes s rest after → Happen keep_last es bytes s left other → after ≡ other
one_run keep_last [] bytes s rest left after other h g = sym h.1 ∙ g.1
one_run keep_last (e ∷ es) bytes s rest left after other h g = grind (arith, one_run keep_last es h.1 h.2 rest left after other h.5, one_read)

-- the events of a tree lead to it
pub same_tree : (keep_last : Bool) (es : List TextEvent) (bytes rest : List ℕ) (s : State) (t u : Tree) → Happen keep_last es bytes no_events rest s
    → whole s.inner ≡ Some t → AreEventsOf keep_last es bytes u → t ≡ u
same_tree keep_last es bytes rest s t u happen is of =
    grind (arith, common_steps, happen_of, one_run, happen_of keep_last es bytes u of)

-- ---- the first events

-- one more event
pub happen_more : (keep_last : Bool) (es : List TextEvent) (bytes : List ℕ) (s : State) (mid : List ℕ) (s' : State) (e : TextEvent) (event : Event)
    (rest : List ℕ) (after : State) → Happen keep_last es bytes s mid s' → Reads e mid event rest → LeadsTo keep_last event s' after
    → Happen keep_last (es ++ e ∷ []) bytes s rest after
happen_more keep_last [] bytes s mid s' e event rest after h reads leads = grind arith
happen_more keep_last (x ∷ es) bytes s mid s' e event rest after h reads leads =
    (h.0, h.1, h.2, h.3, h.4, happen_more keep_last es h.1 h.2 mid s' e event rest after h.5 reads leads)

one_step : (keep_last : Bool) (e : TextEvent) (es : List TextEvent) (bytes : List ℕ) (s : State) (event : Event) (left : List ℕ) (next : State)
    (rest : List ℕ) (after : State) → Reads e bytes event left → LeadsTo keep_last event s next → Happen keep_last (e ∷ es) bytes s rest after
    → Happen keep_last es left next rest after
one_step keep_last e es bytes s event left next rest after h k f = grind (arith, one_read)

-- after the first events there are those that are left
happen_rest : (keep_last : Bool) (es later : List TextEvent) (bytes : List ℕ) (s : State) (mid : List ℕ) (s' : State) (rest : List ℕ) (after : State)
    → Happen keep_last es bytes s mid s' → Happen keep_last (es ++ later) bytes s rest after → Happen keep_last later mid s' rest after
happen_rest keep_last [] later bytes s mid s' rest after h g = grind arith
happen_rest keep_last (e ∷ es) later bytes s mid s' rest after h g =
    happen_rest keep_last es later h.1 h.2 mid s' rest after h.5 (one_step keep_last e (es ++ later) bytes s h.0 h.1 h.2 rest after h.3 h.4 g)

-- ---- duplicate keys

after_either : (xs : List Event) (s s' : State) → lists.after true xs (Ok s) ≡ Ok s'
    → (lists.after false xs (Ok s) ≡ Ok s') ⊎ (lists.after false xs (Ok s) ≡ Err (Failed ObjectDuplicateKey))
after_either [] s s' is = inl is
after_either (x ∷ xs) s s' is = first (next_of true x s) refl is (λ next. after_either xs next s')
  where
    first : (r : Result State EventError) → next_of true x s ≡ r → lists.after true xs r ≡ Ok s'
        → ((next : State) → lists.after true xs (Ok next) ≡ Ok s'
        → (lists.after false xs (Ok next) ≡ Ok s') ⊎ (lists.after false xs (Ok next) ≡ Err (Failed ObjectDuplicateKey)))
        → (lists.after false xs (next_of false x s) ≡ Ok s') ⊎ (lists.after false xs (next_of false x s) ≡ Err (Failed ObjectDuplicateKey))
    first r h e k = grind (arith, not_ok, stuck, failed_stays)

-- an event that may come next only if the last value of a key is kept comes after a duplicate key
duplicate : (es later : List TextEvent) (bytes mid : List ℕ) (s : State) (e : TextEvent) → Happen false es bytes no_events mid s
    → Refuses false e mid s → (Refuses true e mid s → ⊥) → HasDuplicateKey (es ++ later) bytes
duplicate es later bytes mid s e h refuses may =
    let all = all_last es bytes no_events mid s (happen_anyway false es bytes no_events mid s h) in
    go all (after_either all.events no_events (sorted_state s) all.leads)
  where
    go : (all : AreAll true es bytes no_events s) → (lists.after false all.events (Ok no_events) ≡ Ok (sorted_state s))
        ⊎ (lists.after false all.events (Ok no_events) ≡ Err (Failed ObjectDuplicateKey)) → HasDuplicateKey (es ++ later) bytes
    go all (inl same) =
        let back = all_back false es bytes all.events no_events (sorted_state s) all.are same (λ ne. (tt, tt)) in
        let new = subst IsNewState (sym (one_run false es bytes no_events mid back.rest s back.state h back.happen)) (back.new refl) in
        absurd (may (λ event rest after reads leads. refuses event rest after reads (grind (arith, new_len))))
    go all (inr twice) =
        (length es, all.events, subst (λ (xs : List TextEvent). AreEvents xs bytes all.events) (sym (take_at es later (length es) refl)) all.are, twice)

-- events whose first ones have an error have it
error_stays : (n : ℕ) (es : List TextEvent) (bytes : List ℕ) (xs ys : List Event) (r : Result State EventError) (e : EventError)
    → AreEvents (take n es) bytes xs → AreEvents es bytes ys → lists.after false xs r ≡ Err e → lists.after false ys r ≡ Err e
error_stays n es bytes [] ys r e are all is = rw is (failed_stays false ys e)
error_stays (suc n) (x ∷ es) bytes (event ∷ xs) (other ∷ ys) (Err d) e are all is = is
error_stays (suc n) (x ∷ es) bytes (event ∷ xs) (other ∷ ys) (Ok s) e are all is =
    grind (arith, error_stays n es are.0 xs ys (next_of false event s) e are.2, one_read)
error_stays n es bytes (event ∷ xs) ys r e are all is = grind arith

-- ---- errors of a list

-- the event that is read may not come next
pub event_due : (keep_last : Bool) (e : TextEvent) (bytes : List ℕ) (event : Event) (rest : List ℕ) (s : State) (d : EventError) → Reads e bytes event rest
    → IsDue keep_last (λ last. (after : State) → LeadsTo last event s after → ⊥) d → IsDue keep_last (λ last. Refuses last e bytes s) d
event_due keep_last e bytes event rest s d h k = grind (arith, due_along, one_read)

pub event_due_anyway : (keep_last : Bool) (e : TextEvent) (bytes : List ℕ) (event : Event) (rest : List ℕ) (s : State) (d : EventError)
    → Reads e bytes event rest → IsDue true (λ _. (after : State) → LeadsTo true event s after → ⊥) d → IsDue keep_last (λ last. Refuses last e bytes s) d
event_due_anyway keep_last e bytes event rest s d h k = grind (arith, due_anyway, one_read)

-- no tree has events of which one may not come next
stopped : (es later : List TextEvent) (bytes mid : List ℕ) (s : State) (e : TextEvent) → Happen true es bytes no_events mid s → Refuses true e mid s
    → (t : Tree) → AreEventsOf true (es ++ e ∷ later) bytes t → ⊥
stopped es later bytes mid s e h refuses t of =
    grind (arith, common_steps, happen_of, happen_rest, happen_of true (es ++ e ∷ later) bytes t of)

pub refused : (form : Form) (keep_last : Bool) (all es later : List TextEvent) (bytes mid : List ℕ) (s : State) (e : TextEvent) (d : EventError)
    → all ≡ es ++ e ∷ later → Happen keep_last es bytes no_events mid s → IsDue keep_last (λ last. Refuses last e mid s) d
    → FailsWith form keep_last all bytes d
refused form keep_last all es later bytes mid s e d is h (inl memory) = inl memory
refused form keep_last all es later bytes mid s e d is h (inr (inl order)) =
    inr (inl (order.0, rw is (stopped es later bytes mid s e (happen_anyway keep_last es bytes no_events mid s h) order.1)))
refused form keep_last all es later bytes mid s e d is h (inr (inr twice)) =
    let before = subst (λ (last : Bool). Happen last es bytes no_events mid s) twice.1 h in
    inr (inr (inl (twice.0, twice.1, rw is (duplicate es (e ∷ later) bytes mid s e before twice.2 twice.3))))

-- no tree has events after which the root is not complete
pub unfinished : (form : Form) (keep_last : Bool) (es : List TextEvent) (bytes mid : List ℕ) (s : State) (d : EventError)
    → Happen keep_last es bytes no_events mid s → IsDue true (λ _. whole s.inner ≡ None) d → FailsWith form keep_last es bytes d
unfinished form keep_last es bytes mid s d h (inl memory) = inl memory
unfinished form keep_last es bytes mid s d h (inr (inl order)) = inr (inl (
  order.0,
  λ t of.
      let run = happen_of true es bytes t of in
      let same = one_run true es bytes no_events mid run.0 s run.1 (happen_anyway keep_last es bytes no_events mid s h) run.2 in
      let bad : None ≡ Some t = sym order.1 ∙ ap (λ (x : State). whole x.inner) same ∙ run.3 in absurd (cc),
))
unfinished form keep_last es bytes mid s d h (inr (inr twice)) = absurd (true≢false twice.1)

-- ---- errors of a document

pub write_fails : (form : Form) (keep_last : Bool) (es : List TextEvent) (bytes : List ℕ) (t : Tree) (d : Error) → AreEventsOf keep_last es bytes t
    → IsOutOfMemoryOrTooLarge form t d → FailsWith form keep_last es bytes (Failed d)
write_fails form keep_last es bytes t d h e = grind arith

-- errors of a list that has a tree
pub tree_fails : (form : Form) (keep_last : Bool) (es : List TextEvent) (bytes : List ℕ) (t : Tree) (e : EventError) → AreEventsOf keep_last es bytes t
    → FailsWith form keep_last es bytes e → (e ≡ Failed OutOfMemory) ⊎ ((e ≡ Failed TooLarge) × IsTooLarge form t)
tree_fails form keep_last es bytes t e of (inl memory) = inl memory
tree_fails form keep_last es bytes t e of (inr (inl order)) = absurd (order.1 t (let run = happen_of keep_last es bytes t of in
    complete true es bytes run.1 t run.3 (all_last es bytes no_events run.0 run.1 (happen_anyway keep_last es bytes no_events run.0 run.1 run.2))))
tree_fails form keep_last es bytes t e of (inr (inr (inl twice))) =
    absurd (grind (arith, error_stays, twice.2, subst (λ (last : Bool). AreEventsOf last es bytes t) twice.1 of))
tree_fails form keep_last es bytes t e of (inr (inr (inr large))) =
    let run = happen_of keep_last es bytes large.1 large.2 in
    inr (large.0, subst (IsTooLarge form) (same_tree keep_last es bytes run.0 run.1 large.1 t run.2 run.3 of) large.3)
