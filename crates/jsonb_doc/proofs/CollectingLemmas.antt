-- Events that are collected: members of containers in runs, walks over runs, and what the collector holds after each event.
use Rattle.jsonb_doc.proofs.Common.{◌≡◌, ℕ, ◌+◌, ◌<◌, ◌≤◌, List, [], ◌∷◌, ◌++◌, length, refl, ◌^◌, arith, slice_range, reverse, Result, MatchResult, keys_of, values_of, length-append, take-append-le, drop_at, between_is, between_to_end, Tree, array, object, Trees, tree, Pairs, pair, elements, members, keys, OpenContainer, AreSortedKeys, Make, IsPart, AreElements, HoldParts, keys_first, Run, Part, Nested, Member, Left, Outer, length-values_of, AllZip-long, suc, map, sym, ap, ◌∙◌, Bool, true, false, Some, None, Option, IsTrue, subst, slice_get, option_copied, is_some, unwrap_or, ◌-◌, IfErr, Ok, Err, OnOk, Bor, AllZip, IsSortedBy, IsStableBy, mid_of, true≢false, length-map, append-nil, take_at, trees_of, pairs_of, insert_pair, Level, State, root, array_of, object_of, takes_value, whole, has_lower_key, unique, as_pair, insert_all, appended, EndsAs, Ends, TakesTree, LeadsTo, IsMemberOf, HoldsFrame, HoldsState, WaitsFor, AreAround, Keeps, IsDue, IsRepeated, IsPushRefused, HeaderKind, Frame, Collector, EventError, common_steps}
use Rattle.jsonb_doc.specs.Private.EventParts.{AreMembers, member_keys}
use Rattle.jsonb_doc.specs.declared.layout.HeaderKind.TheVariants.{Object, Array, Scalar}
use Rattle.jsonb_doc.proofs.Weights.{weight_of, weight-pos, weight_of_all, inner_weighs, falls_inward, falls_outward}
use Rattle.jsonb_doc.proofs.TreeLists.{trees_of-elements, pairs_of-members, keys_of-members, keys-pairs_of}
use Rattle.jsonb_doc.specs.Events as events
use Rattle.jsonb_doc.proofs.UniqueLemmas.{all_rise, sorted_keys, unique_inserted}
use Rattle.jsonb_doc.proofs.Basics.{zip_along, zip_more}

-- ---- children as lists

elements_hold : (ds : List Member) (room : ℕ) (ms : List Member) (ts : Trees) → AreElements ds room ms ts → HoldParts ds room ms (elements ts)
elements_hold ds room (m ∷ ms) (tree t ts) h = (h.0, elements_hold ds room ms ts h.1)
elements_hold ds room _ _ h = grind arith

values_hold : (ds : List Member) (room : ℕ) (ms : List Member) (ps : Pairs) → AreMembers ds room ms ps → HoldParts ds room ms (values_of (members ps))
values_hold ds room (m ∷ ms) (pair key t ps) h = (h.1, values_hold ds room ms ps h.2)
values_hold ds room _ _ h = grind arith

keys_hold : (ds : List Member) (room : ℕ) (ms : List Member) (ps : Pairs) → AreMembers ds room ms ps → member_keys ms ≡ keys_of (members ps)
keys_hold ds room (m ∷ ms) (pair key t ps) h = rw (h.0, keys_hold ds room ms ps h.2) refl
keys_hold ds room _ _ h = grind arith

-- ---- more members after those of containers that have ended

run_stays : (ds more : List Member) (first end : ℕ) → end ≤ length ds → slice_range (ds ++ more) first end ≡ slice_range ds first end
run_stays ds more first end h = grind (arith, between_is, take-append-le)

-- a part keeps its tree
mutual
  pub part_stays : (ds more : List Member) (room room' : ℕ) (p : Part) (t : Tree) → room ≤ room' → IsPart ds room p t → IsPart (ds ++ more) room' p t
  part_stays ds more room room' (Nested run) (array ts) le h =
      grind (arith, elements_stay ds more run.end (slice_range ds run.first run.end) ts h.4, length-append, run_stays)
  part_stays ds more room room' (Nested run) (object ps) le h =
      grind (arith, members_stay ds more run.end (slice_range ds run.first run.end) ps h.5, length-append, run_stays)
  part_stays ds more room room' _ _ le h = grind arith

  elements_stay : (ds more : List Member) (room : ℕ) (ms : List Member) (ts : Trees) → AreElements ds room ms ts → AreElements (ds ++ more) room ms ts
  elements_stay ds more room (m ∷ ms) (tree t ts) h = (part_stays ds more room room m.part t (omega arith) h.0, elements_stay ds more room ms ts h.1)
  elements_stay ds more room _ _ h = grind arith

  members_stay : (ds more : List Member) (room : ℕ) (ms : List Member) (ps : Pairs) → AreMembers ds room ms ps → AreMembers (ds ++ more) room ms ps
  members_stay ds more room (m ∷ ms) (pair key t ps) h = (h.0, part_stays ds more room room m.part t (omega arith) h.1, members_stay ds more room ms ps h.2)
  members_stay ds more room _ _ h = grind arith

-- ---- a container that is opened

pub record PartOpened (ds : List Member) (run : Run) (ms : List Member) (t : Tree) : Type 0 where
  pub trees : List Tree
  pub holds : HoldParts ds run.end ms trees
  pub makes : (n : ℕ) → n ≡ length ms → Make run.kind n (keys_first run.kind ms trees) t

array_opened : (ds : List Member) (room : ℕ) (run : Run) (ms : List Member) (ts : Trees) → run.kind ≡ Array → AreElements ds run.end ms ts
    → PartOpened ds run ms (array ts)
array_opened ds room run ms ts kind h = search (arith, elements_hold ds run.end ms ts h, AllZip-long, trees_of-elements)

object_opened : (ds : List Member) (room : ℕ) (run : Run) (ms : List Member) (ps : Pairs) → run.kind ≡ Object → AreSortedKeys (keys ps)
    → AreMembers ds run.end ms ps → PartOpened ds run ms (object ps)
object_opened ds room run ms ps kind sorted h =
    search (arith, values_hold ds run.end ms ps h, values_of, AllZip-long, length-values_of, keys_of-members, keys_hold, pairs_of-members)

pub part_opened : (ds : List Member) (room : ℕ) (run : Run) (ms : List Member) (t : Tree) → IsPart ds room (Nested run) t
    → ms ≡ slice_range ds run.first run.end → PartOpened ds run ms t
part_opened ds room run ms t h e = grind (arith, array_opened, object_opened)

-- ---- the first of some members

pub record FirstPart (ds : List Member) (room : ℕ) (m : Member) (others : List Member) (us : List Tree) : Type 0 where
  pub t : Tree
  pub rest : List Tree
  pub us_is : us ≡ t ∷ rest
  pub part : IsPart ds room m.part t
  pub others_hold : HoldParts ds room others rest

pub first_part : (ds : List Member) (room : ℕ) (ms : List Member) (us : List Tree) (m : Member) (others : List Member) → ms ≡ m ∷ others
    → HoldParts ds room ms us → FirstPart ds room m others us
first_part ds room ms us m others h e = search (arith, Member)

pub no_parts : (ds : List Member) (room : ℕ) (ms : List Member) (us : List Tree) → length ms ≡ 0 → HoldParts ds room ms us → us ≡ []
no_parts ds room [] us none h = grind arith
no_parts ds room (m ∷ ms) us none h = absurd (omega (arith, none))

-- ---- how a walk ends

abbrev pub left_weight : Left → ℕ
left_weight left = weight_of (length left.members.now) left.room

abbrev pub outer_weight : Outer → ℕ
outer_weight outer = left_weight outer.left

pub walk_falls_inward : (left left' inner : Left) (at : OpenContainer) (around around' : List Outer)
    → length left'.members.now < length left.members.now → left'.room ≤ left.room → inner.room < left.room → length inner.members.now < 2 ^ 64
    → around' ≡ around ++ record { container = at; left = left' } ∷ []
    → left_weight inner + weight_of_all outer_weight (reverse around') < left_weight left + weight_of_all outer_weight (reverse around)
walk_falls_inward left left' inner at around around' fewer less within few e = grind (arith, common_steps, falls_inward, inner_weighs)

pub walk_falls_outward : (left : Left) (outer : Outer) (around around' : List Outer) → around ≡ around' ++ outer ∷ []
    → left_weight outer.left + weight_of_all outer_weight (reverse around') < left_weight left + weight_of_all outer_weight (reverse around)
walk_falls_outward left outer around around' e = grind (arith, common_steps, falls_outward, weight-pos)

-- ---- more members after those of containers that have ended

module _ (ds more : List Member) where
  stays : (p : Part) (t : Tree) → IsPart ds (suc (length ds)) p t → IsPart (ds ++ more) (suc (length (ds ++ more))) p t
  stays p t h = part_stays ds more _ _ p t (omega (arith, length-append ds more)) h

  parts_stay : (ms : List Member) (ts : List Tree) → HoldParts ds (suc (length ds)) ms ts → HoldParts (ds ++ more) (suc (length (ds ++ more))) ms ts
  parts_stay = zip_along _ _ (λ m t. stays m.part t)

  pairs_stay : (ms : List Member) (ps : List (List ℕ × Tree)) → AllZip (IsMemberOf ds) ms ps → AllZip (IsMemberOf (ds ++ more)) ms ps
  pairs_stay = zip_along _ _ (λ m p h. (h.0, stays m.part p.1 h.1))

  pub around_stay : (kind : HeaderKind) (before : List Member) (ls : List Level) → AreAround ds kind before ls → AreAround (ds ++ more) kind before ls
  around_stay Scalar before ls h = h
  around_stay Array before (l ∷ ls) h = search (arith, around_stay h.3.kind h.0 ls h.8, parts_stay, pairs_stay)
  around_stay Object before (l ∷ ls) h = search (arith, around_stay h.3.kind h.0 ls h.8, parts_stay, pairs_stay)
  around_stay _ before [] h = absurd h

-- ---- a value

-- a frame that waits for a value, with it
pub filled_frame : (ds : List Member) (f : Frame) (kind : HeaderKind) (ms : List Member) (m : Member) (level : Level) (t : Tree) → f.kind ≡ kind
    → option_copied f.key ≡ None → WaitsFor ds kind m.key.now ms level → IsPart ds (suc (length ds)) m.part t
    → IsTrue (takes_value level) × HoldsFrame ds f (ms ++ m ∷ []) (appended t level)
filled_frame ds f kind ms m level t h e k g = grind (arith, zip_more)

-- a value that is waited for may come next
pub waits_takes : (ds : List Member) (kind : HeaderKind) (key : List ℕ) (ms : List Member) (level : Level) → WaitsFor ds kind key ms level
    → IsTrue (takes_value level)
waits_takes ds kind key ms level h = grind arith

-- a key in an object
pub named_frame : (ds : List Member) (f g : Frame) (ms : List Member) (key : List ℕ) (level : Level) → f.kind ≡ Object → option_copied f.key ≡ None
    → g.kind ≡ f.kind → option_copied g.key ≡ Some key → HoldsFrame ds f ms level
    → (ps : List (List ℕ × Tree)) × (level ≡ object_of ps None) × HoldsFrame ds g ms (object_of ps (Some key))
named_frame ds f g ms key level h e k i q = grind arith

-- ---- the containers around

pub record OpenedAround (ds before : List Member) (l : Level) (ls : List Level) : Type 0 where
  pub earlier : List Member
  pub ms : List Member
  pub m : Member
  pub run : Run
  pub joined : before ≡ (earlier ++ ms) ++ m ∷ []
  pub part : m.part ≡ Nested run
  pub first : run.first ≡ length earlier
  pub waits : WaitsFor ds run.kind m.key.now ms l
  pub around : AreAround ds run.kind earlier ls

pub opened_around : (ds : List Member) (kind : HeaderKind) (before : List Member) (l : Level) (ls : List Level) → AreAround ds kind before (l ∷ ls)
    → OpenedAround ds before l ls
opened_around ds kind before l ls h = grind arith

pub same_run : (run other : Run) (part : Part) → part ≡ Nested run → part ≡ Nested other → run ≡ other
same_run run other part e f = cc

-- the root, once it is complete
pub root_finished : (ds : List Member) (f : Frame) (ms : List Member) (m : Member) (level : Level) → f.kind ≡ Scalar → Some m ≡ slice_get ms 0
    → HoldsFrame ds f ms level → (t : Tree) × (whole level ≡ Some t) × IsPart ds (suc (length ds)) m.part t
root_finished ds f [] m level is first h = let bad : Some m ≡ None = first in absurd (cc)
root_finished ds f (n ∷ ms) m (root (Some t)) is first h = search (arith, ap (λ (o : Option Member). unwrap_or o m) first, t, h.2.0)
root_finished ds f (n ∷ ms) m level is first h = grind arith

-- ---- the pairs of an object

module _ (ds : List Member) where
  abbrev IsPairOf : List ℕ × Part → List ℕ × Tree → Type 0
  IsPairOf e p = (e.0 ≡ p.0) × IsPart ds (suc (length ds)) e.1 p.1

  pub as_pairs : (ms : List Member) (ps : List (List ℕ × Tree)) → AllZip (IsMemberOf ds) ms ps → AllZip IsPairOf (map as_pair ms) ps
  as_pairs (m ∷ ms) (p ∷ ps) h = (h.0, as_pairs ms ps h.1)
  as_pairs _ _ h = grind arith

  as_members : (ms : List Member) (ps : List (List ℕ × Tree)) → AllZip IsPairOf (map as_pair ms) ps → AllZip (IsMemberOf ds) ms ps
  as_members (m ∷ ms) (p ∷ ps) h = (h.0, as_members ms ps h.1)
  as_members _ _ h = grind arith

  pair_inserted : (k key : List ℕ) (part : Part) (t : Tree) (es : List (List ℕ × Part)) (ps : List (List ℕ × Tree)) → k ≡ key
      → IsPart ds (suc (length ds)) part t → AllZip IsPairOf es ps → AllZip IsPairOf (insert_pair k part es) (insert_pair key t ps)
  pair_inserted k key part t [] [] named is h = ((named, is), tt)
  pair_inserted k key part t (e ∷ es) (p ∷ ps) named is h = grind (arith, pair_inserted k key part t es ps named is h.1)
  pair_inserted k key part t _ _ named is h = absurd h

  all_inserted : (es fs : List (List ℕ × Part)) (ps qs : List (List ℕ × Tree)) → AllZip IsPairOf es ps → AllZip IsPairOf fs qs
      → AllZip IsPairOf (insert_all es fs) (insert_all ps qs)
  all_inserted es (f ∷ fs) ps (q ∷ qs) h g =
      all_inserted (insert_pair f.0 f.1 es) fs (insert_pair q.0 q.1 ps) qs (pair_inserted f.0 q.0 f.1 q.1 es ps g.0.0 g.0.1 h) g.1
  all_inserted es _ ps _ h g = grind arith

  -- the members that are kept are the pairs, inserted one after the other
  pub kept_members : (ms kept : List Member) (qs : List (List ℕ × Tree)) → AllZip (IsMemberOf ds) ms qs
      → map as_pair kept ≡ insert_all [] (map as_pair ms) → AllZip (IsMemberOf ds) kept (insert_all [] qs)
  kept_members ms kept qs h is = search (arith, as_members kept (insert_all [] qs) (rw is (all_inserted [] (map as_pair ms) [] qs tt (as_pairs ms qs h))))

  pub all_kept : (ms kept : List Member) (qs : List (List ℕ × Tree)) → AllZip (IsMemberOf ds) ms qs → AllZip (IsMemberOf ds) kept (insert_all [] qs)
      → length kept ≡ length ms → length (insert_all [] qs) ≡ length qs
  all_kept ms kept qs h g same = AllZip-long _ kept (insert_all [] qs) g ∙ same ∙ sym (AllZip-long _ ms qs h)

  -- ---- a container that ends

  elements_in : (more : List Member) (room : ℕ) (ms : List Member) (ts : List Tree) → (0 < length ms → suc (length ds) ≤ room) → HoldParts ds (suc (length ds)) ms ts
      → AreElements (ds ++ more) room ms (trees_of ts)
  elements_in more room (m ∷ ms) (t ∷ ts) within h = grind (arith, elements_in more room ms ts, part_stays)
  elements_in more room _ _ within h = grind arith

  members_in : (more : List Member) (room : ℕ) (ms : List Member) (ps : List (List ℕ × Tree)) → (0 < length ms → suc (length ds) ≤ room)
      → AllZip (IsMemberOf ds) ms ps → AreMembers (ds ++ more) room ms (pairs_of ps)
  members_in more room (m ∷ ms) (p ∷ ps) within h = grind (arith, members_in more room ms ps, part_stays)
  members_in more room _ _ within h = grind arith

  pub object_part : (run : Run) (ms : List Member) (qs : List (List ℕ × Tree)) → run.kind ≡ Object → run.first ≡ length ds → run.end ≡ length (ds ++ ms)
      → AllZip (IsMemberOf ds) ms (insert_all [] qs) → IsPart (ds ++ ms) (suc (length (ds ++ ms))) (Nested run) (object (pairs_of (insert_all [] qs)))
  object_part run ms qs h e k f = grind (arith, length-append, between_to_end, drop_at, keys-pairs_of, sorted_keys, all_rise, members_in)

-- ---- the end of a container

pub array_ends : (keep_last : Bool) (ds new : List Member) (f : Frame) (ms : List Member) (level : Level) (run : Run) → f.kind ≡ Array → HoldsFrame ds f ms level
    → new ≡ ds ++ ms → run.kind ≡ Array → run.first ≡ length ds → run.end ≡ length new → Ends keep_last ds new level run
array_ends keep_last ds new f ms (array_of ts) run is h joined kind first end =
    search (arith, array (trees_of ts), ms, joined, length-append, between_to_end, drop_at, elements_in)
array_ends keep_last ds new f ms level run is h joined kind first end = grind arith

pub object_ends : (keep_last : Bool) (ds new : List Member) (f : Frame) (ms : List Member) (level : Level) (run : Run) → f.kind ≡ Object
    → option_copied f.key ≡ None → HoldsFrame ds f ms level → Keeps keep_last ds new ms → run.kind ≡ Object → run.first ≡ length ds → run.end ≡ length new
    → Ends keep_last ds new level run
object_ends keep_last ds new f ms (object_of qs None) run is none h keeps kind first end =
    let members = kept_members ds ms keeps.0 qs h.2 keeps.2 in
    record {
      t = object (pairs_of (insert_all [] qs));
      more = keeps.0;
      ends_as = (refl, λ e. all_kept ds ms keeps.0 qs h.2 members (keeps.3 e));
      joined = keeps.1;
      part = rw keeps.1 (object_part ds run keeps.0 qs kind first (end ∙ ap length keeps.1) members);
    }
object_ends keep_last ds new f ms level run is none h keeps kind first end = grind arith

-- the reason of an error is that of another one
pub due_along : (keep_last : Bool) (P Q : Bool → Type 0) (e : EventError) → ((last : Bool) → P last → Q last) → (Q true → P true)
    → IsDue keep_last P e → IsDue keep_last Q e
due_along keep_last P Q e h k f = grind arith

-- an error apart from duplicate keys is one with both values of `keep_last`
pub due_anyway : (keep_last : Bool) (P Q : Bool → Type 0) (e : EventError) → (P true → Q true) → IsDue true P e → IsDue keep_last Q e
due_anyway keep_last P Q e h k = grind arith

pub sorted_pushed : {A : Type 0} (r : Result A EventError) (keep_last : Bool) (ms ns old new : List Member) → OnOk r (new ≡ old ++ unique ns)
    → OnOk r (keep_last ≡ false → unique ns ≡ ns) → IfErr r (IsDue keep_last (λ last. (last ≡ false) × (length (unique ns) < length ns)))
    → IsSortedBy has_lower_key ns → IsStableBy has_lower_key ms ns → length ns ≡ length ms
    → MatchResult r (λ _. Keeps keep_last old new ms) (IsDue keep_last (λ last. IsRepeated last ms))
sorted_pushed (Ok x) keep_last ms ns old new pushed all errors sorted stable len = grind (arith, unique_inserted)
sorted_pushed (Err e) keep_last ms ns old new pushed all errors sorted stable len =
    let same = ap (λ (ps : List (List ℕ × Part)). length ps) (unique_inserted ms ns len sorted stable) in
    due_along keep_last (λ last. (last ≡ false) × (length (unique ns) < length ns)) (λ last. IsRepeated last ms) e
    (λ last fewer. (fewer.0, omega (arith, fewer.1, same, len, length-map (unique ns) as_pair))) (λ repeated. absurd (true≢false repeated.0)) errors

pub innermost_is : (items before ms : List Member) (a k : ℕ) → items ≡ before ++ ms → a ≡ length before → k ≡ length items - a → ms ≡ mid_of a k items
innermost_is items before ms a k joined start len = grind (arith, common_steps, drop_at, Member, length-append, append-nil, take_at)

pub none_of : (o : Option (Bor (List ℕ))) → is_some o ≡ false → option_copied o ≡ None
none_of o h = grind arith

-- a container that ends is within another one
pub ends_around : (keep_last : Bool) (ds : List Member) (f : Frame) (ms before : List Member) (level : Level) (t : Tree) (ls : List Level)
    → EndsAs keep_last level t → HoldsFrame ds f ms level → AreAround ds f.kind before ls → (l : Level) × (rest : List Level) × (ls ≡ l ∷ rest)
ends_around keep_last ds f ms before level t ls h e k = grind arith

-- ---- events that may not come next

-- a container with such members may not end
pub refused_stays : (keep_last : Bool) (ds : List Member) (f : Frame) (ms : List Member) (level : Level) (t : Tree) → HoldsFrame ds f ms level
    → IsPushRefused keep_last f.kind ms → EndsAs keep_last level t → ⊥
refused_stays keep_last ds f ms (array_of ts) t h refused ends = absurd (rw h.0 at refused)
refused_stays keep_last ds f ms (object_of qs None) t h refused ends =
    let more = AllZip-long _ _ _ (all_inserted ds [] (map as_pair ms) [] qs tt (as_pairs ds ms qs h.2)) in
    search (arith, h.0, refused, all_inserted ds [] (map as_pair ms) [] qs tt (as_pairs ds ms qs h.2), more, AllZip-long _ ms qs h.2)
refused_stays keep_last ds f ms _ t h refused ends = absurd ends

-- nor may one that does not end even if the last value of a key is kept
pub stays_refused : (ds : List Member) (f : Frame) (ms : List Member) (level : Level) → HoldsFrame ds f ms level → option_copied f.key ≡ None
    → ((t : Tree) → EndsAs true level t → ⊥) → IsPushRefused true f.kind ms
stays_refused ds f ms (array_of ts) h none never = absurd (never (array (trees_of ts)) refl)
stays_refused ds f ms (object_of ps None) h none never =
    absurd (never (object (pairs_of (insert_all [] ps))) (refl, λ ne. absurd (true≢false ne)))
stays_refused ds f ms level h none never = grind arith

-- a value may come next in the containers around
outer_takes : (ds : List Member) (kind : HeaderKind) (before : List Member) (l : Level) (ls : List Level) → AreAround ds kind before (l ∷ ls)
    → IsTrue (takes_value l)
outer_takes ds kind before l ls h = grind (arith, opened_around, waits_takes)

-- a container that may end does
end_leads : (c : Collector) (s : State) → HoldsState c s → ((after : State) → LeadsTo true events.ends s after → ⊥) → (t : Tree) → EndsAs true s.inner t → ⊥
end_leads c s h never t is =
    let outer = ends_around true c.ended.items c.inner h.ms h.before s.inner t s.around is h.inner h.around in
    let around = subst (λ (ls : List Level). AreAround c.ended.items c.inner.kind h.before ls) outer.2 h.around in
    never (record { inner = appended t outer.0; around = outer.1 })
    (t, outer.0, outer.1, is, outer.2, (outer_takes c.ended.items c.inner.kind h.before outer.0 outer.1 around, refl))

-- ---- the reasons of errors

-- and so why the event may not come next
pub end_event_due : (keep_last : Bool) (c : Collector) (s : State) (e : EventError) → HoldsState c s
    → IsDue keep_last (λ last. (t : Tree) → EndsAs last s.inner t → ⊥) e
    → IsDue keep_last (λ last. (after : State) → LeadsTo last events.ends s after → ⊥) e
end_event_due keep_last c s e h =
    due_along keep_last (λ last. (t : Tree) → EndsAs last s.inner t → ⊥) (λ last. (after : State) → LeadsTo last events.ends s after → ⊥) e
    (λ last refused after leads. refused leads.0 leads.3) (end_leads c s h)

-- the container around takes the one that ended
pub outer_due : (keep_last : Bool) (Q : Bool → Type 0) (ds : List Member) (kind : HeaderKind) (before : List Member) (t : Tree) (l : Level)
    (ls : List Level) (e : EventError) → AreAround ds kind before (l ∷ ls) → IsDue true (λ _. (after : State) → TakesTree t l ls after → ⊥) e
    → IsDue keep_last Q e
outer_due keep_last Q ds kind before t l ls e h k = grind (arith, due_anyway, outer_takes)
