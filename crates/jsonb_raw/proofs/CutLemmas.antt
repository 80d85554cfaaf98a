-- Containers without a value within them: their entries, the way to the value, and what is left of the document.
use Rattle.jsonb_raw.proofs.Common.{◌≡◌, ℕ, zero, suc, ◌+◌, ◌-◌, ◌^◌, ◌<◌, ◌≤◌, inl, List, [], ◌∷◌, ◌++◌, length, take, drop, map, Option, Some, None, refl, sym, ap, ap₂, subst, ◌∙◌, arith, append_assoc, append-nil, slice_get, reverse, option_map, option_to_list, keys_of, values_of, length-take-le, length-values_of, Tree, text, array, object, Trees, Pairs, no_pairs, pair, elements, keys, values, members, trees_of, pairs_of, children_of, Form, number_reader, IsBelowFirst, AreKeys, IsContent, Decodes, kind_number, container_entry, Make, AreSortedKeys, Around, Rooms, IsWriting, EndsWithin, head_size, Entries, StoredEntry, Container, HeaderKind, Writer, innermost, keys_rise, keys_of-members, Key, ContainerEntries, ParentEntries, Outer, children, child_position, change_at, change_child, remove_at, HoldTrees, TakesFirst, AreEntriesOf, AreContainerEntries, count_kept, IsParent, LeadTo, HoldsValue, StepsInto, children_kept, size, sizes, AreShort, AreLeft, rooms_after, remove, location, Result, Vec, Global, MatchResult, Error, SameOption, IsOutOfMemory, without, MeetNoPart, Leads}
use Rattle.std.proofs.lemmas.Cmp.{nat_list_cmp_total}
use Rattle.std.proofs.lemmas.List.{length-append, length-drop, take_all}
use Rattle.jsonb_doc.specs.declared.layout.HeaderKind.TheVariants as header_kind
use Rattle.jsonb_raw.specs.Private.Cuts.{entries_kept}
use Rattle.jsonb_raw.proofs.ChildLemmas.{no_such_element, drop_one_more, split_at}
use Rattle.jsonb_raw.proofs.PositionLemmas.{names_around, values_around}
use Rattle.jsonb_raw.proofs.RunLemmas.{values_of-members, Member, entry_taken, no_entry_left}

-- ---- lists with an element changed or left out

changed_at : {A : Type 0} (n : ℕ) (change : A → Option A) (xs : List A) (x : A) → slice_get xs n ≡ Some x
    → change_at n change xs ≡ take n xs ++ (option_to_list (change x) ++ drop (suc n) xs)
changed_at n change [] x at = let bad : None ≡ Some x = at in absurd (cc)
changed_at zero change (y ∷ xs) x at = let e : y ≡ x = cc at in ap (λ z. option_to_list (change z) ++ xs) e
changed_at (suc n) change (y ∷ xs) x at = ap (λ zs. y ∷ zs) (changed_at n change xs x at)

pub none_left : (n : ℕ) → ◌≡◌ {A = List Tree} (remove [] n) []
none_left n = grind arith

member_at : (ps : Pairs) (n : ℕ) (child : Tree) → slice_get (elements (values ps)) n ≡ Some child
    → (key : List ℕ) × (slice_get (members ps) n ≡ Some (key, child))
member_at no_pairs n child at = let bad : None ≡ Some child = at in absurd (cc)
member_at (pair key t ps) zero child at =
    let of : Tree → Option Member = λ u. Some (key, u) in (key, ap of (cc at))
member_at (pair key t ps) (suc n) child at = member_at ps n child at

values_put : (n : ℕ) (ps : List Member) (key : List ℕ) (u : Tree)
    → values_of (take n ps ++ (key, u) ∷ drop (suc n) ps) ≡ take n (values_of ps) ++ u ∷ drop (suc n) (values_of ps)
values_put zero [] key u = refl
values_put zero (p ∷ ps) key u = refl
values_put (suc n) [] key u = refl
values_put (suc n) (p ∷ ps) key u = ap (λ ts. p.1 ∷ ts) (values_put n ps key u)

keys_put : (n : ℕ) (ps : List Member) (key : List ℕ) (t u : Tree) → slice_get ps n ≡ Some (key, t)
    → keys_of (take n ps ++ (key, u) ∷ drop (suc n) ps) ≡ keys_of ps
keys_put n [] key t u at = grind arith
keys_put zero (p ∷ ps) key t u at = let e : p ≡ (key, t) = cc at in ap (λ (q : Member). q.0 ∷ keys_of ps) (sym e)
keys_put (suc n) (p ∷ ps) key t u at = ap (λ ks. p.0 ∷ ks) (keys_put n ps key t u at)

-- sorted keys without one are sorted
below_without : (low : List ℕ) (n : ℕ) (ps : List Member) → IsBelowFirst low (keys_of ps) → AreSortedKeys (keys_of ps)
    → IsBelowFirst low (keys_of (remove ps n))
below_without low zero [] below sorted = tt
below_without low zero (p ∷ []) below sorted = tt
below_without low zero (p ∷ q ∷ ps) below sorted = nat_list_cmp_total.trans low p.0 q.0 below sorted.0
below_without low (suc n) [] below sorted = tt
below_without low (suc n) (p ∷ ps) below sorted = below

sorted_without : (n : ℕ) (ps : List Member) → AreSortedKeys (keys_of ps) → AreSortedKeys (keys_of (remove ps n))
sorted_without zero [] sorted = tt
sorted_without zero (p ∷ ps) sorted = sorted.1
sorted_without (suc n) [] sorted = tt
sorted_without (suc n) (p ∷ ps) sorted = (below_without p.0 n ps sorted.0 sorted.1, sorted_without n ps sorted.1)

-- ---- what a container becomes

-- The member with its value mapped.
abbrev at_value : (Tree → Option Tree) → Member → Option Member
at_value change p = option_map (λ t. (p.0, t)) (change p.1)

module _ (n others : ℕ) (child : Tree) where
  array_makes : (ts : Trees) → slice_get (elements ts) n ≡ Some child
      → others ≡ length (take n (elements ts)) + length (drop (suc n) (elements ts)) → (ns : List ℕ)
      → Make header_kind.Array (count_kept others ns) (entries_kept (array ts) n child ns) (change_child n (remove_at ns) (array ts))
  array_makes ts at is [] =
      let front = take n (elements ts) in
      let after = drop (suc n) (elements ts) in
      let kept : remove [] n ++ (front ++ after) ≡ front ++ after = ap (λ us. us ++ (front ++ after)) (none_left n) in (
        is ∙ sym (length-append front after) ∙ ap length (sym kept),
        ap (λ us. array (trees_of us)) (changed_at n (remove_at []) (elements ts) child at ∙ sym kept),
      )
  array_makes ts at is (m ∷ ns) =
      let u = change_child m (remove_at ns) child in (
        omega (arith, is, length-append (take n (elements ts)) (u ∷ drop (suc n) (elements ts))),
        ap (λ us. array (trees_of us)) (changed_at n (remove_at (m ∷ ns)) (elements ts) child at),
      )

  object_makes : (ps : Pairs) → AreKeys (keys ps) → slice_get (elements (values ps)) n ≡ Some child
      → others ≡ length (take n (elements (values ps))) + length (drop (suc n) (elements (values ps))) → (ns : List ℕ)
      → Make header_kind.Object (count_kept others ns) (entries_kept (object ps) n child ns) (change_child n (remove_at ns) (object ps))
  object_makes ps are at is [] =
      let ms = members ps in
      let cs = elements (values ps) in
      let m = member_at ps n child at in
      let names : remove (map text (keys ps)) n ≡ map text (keys_of (remove ms n)) =
      ap (λ ks. remove (map text ks) n) (sym (keys_of-members ps)) ∙ sym (names_around n ms) in
      let trees : remove cs n ≡ values_of (remove ms n) = ap (λ us. remove us n) (sym (values_of-members ps)) ∙ sym (values_around n ms) in (
        remove ms n,
        is ∙ sym (length-append (take n cs) (drop (suc n) cs)) ∙ ap length trees ∙ length-values_of (remove ms n),
        sorted_without n ms (rw (keys_of-members ps) (keys_rise (keys ps) are)),
        ap₂ (λ ks vs. ks ++ vs) names trees,
        ap (λ qs. object (pairs_of qs)) (changed_at n (at_value (remove_at [])) ms (m.0, child) m.1),
      )
  object_makes ps are at is (k ∷ ns) =
      let ms = members ps in
      let cs = elements (values ps) in
      let m = member_at ps n child at in
      let u = change_child k (remove_at ns) child in
      let qs = take n ms ++ (m.0, u) ∷ drop (suc n) ms in
      let same : keys_of qs ≡ keys ps = keys_put n ms m.0 child u m.1 ∙ keys_of-members ps in
      let trees : take n cs ++ u ∷ drop (suc n) cs ≡ values_of qs =
      ap (λ vs. take n vs ++ u ∷ drop (suc n) vs) (sym (values_of-members ps)) ∙ sym (values_put n ms m.0 u) in (
        qs,
        omega (arith, is, length-append (take n cs) (u ∷ drop (suc n) cs), ap length trees, length-values_of qs),
        subst AreSortedKeys (sym same) (keys_rise (keys ps) are),
        ap₂ (λ ks vs. ks ++ vs) (ap (map text) (sym same)) trees,
        ap (λ rs. object (pairs_of rs)) (changed_at n (at_value (remove_at (k ∷ ns))) ms (m.0, child) m.1),
      )

parent_of : (form : Form) (t : Tree) (e : ContainerEntries) (p : ParentEntries) (n : ℕ) (child : Tree) → AreEntriesOf form t e → p.kind ≡ e.kind
    → p.keys ≡ e.keys → HoldTrees form p.front (take n (children t)) → HoldTrees form p.after (drop (suc n) (children t))
    → p.others ≡ length (take n (children t)) + length (drop (suc n) (children t)) → n < length (children t)
    → slice_get (children t) n ≡ Some child → IsParent form p t n child
parent_of form (array ts) e p n child h kind same front after is inside at = grind (arith, length-take-le, elements, array_makes)
parent_of form (object ps) e p n child h kind same front after is inside at = record {
  keys_hold = subst (λ run. HoldTrees form run (map text (keys ps))) (sym same) (rw (keys_of-members ps) at h.2.names);
  front_hold = front;
  after_hold = after;
  passed = sym (length-take-le n (elements (values ps)) (omega arith));
  makes = grind (arith, object_makes);
}
parent_of form _ e p n child h kind same front after is inside at = absurd h

-- ---- the child that a step selects

pub values_hold : (form : Form) (t : Tree) (e : ContainerEntries) → AreEntriesOf form t e → HoldTrees form e.values (children t)
values_hold form t e h = grind (arith, values_of-members)

-- Holds if this is the entry of the child at a position, and these are the entries after it.
pub record ChildTaken (form : Form) (cs : List Tree) (n : ℕ) (entry : StoredEntry) (after : Entries) : Type 0 where
  pub child : Tree
  pub inside : n < length cs
  pub at : slice_get cs n ≡ Some child
  pub part : IsContent (number_reader form) child (kind_number entry.kind) entry.content.now
  pub after_hold : HoldTrees form after (drop (suc n) cs)

pub child_taken : (form : Form) (cs : List Tree) (n : ℕ) (others : Entries) (found : Option (StoredEntry × Entries)) (entry : StoredEntry) (after : Entries)
    → found ≡ Some (entry, after) → TakesFirst form others (drop n cs) found → ChildTaken form cs n entry after
child_taken form cs n others found entry after is h = grind (arith, entry_taken, split_at)

not_container : (form : Form) (t : Tree) (kind : ℕ) (bytes : List ℕ) → IsContent (number_reader form) t kind bytes → (kind ≡ container_entry → ⊥)
    → children_of t ≡ None
not_container form t kind bytes h e = grind arith

pub root_value : (form : Form) (entry : StoredEntry) (t : Tree) → entry.kind ≡ Container → Decodes form entry.content.now t → HoldsValue form entry t
root_value form entry t is d = record { container = λ _. d; scalar = λ other. absurd (other (ap kind_number is)) }

pub no_entries : (form : Form) (t : Tree) → AreContainerEntries form t None → children_of t ≡ None
no_entries form t h = grind arith

module _ (form : Form) (t : Tree) (step : Key) where
  pub no_position : None ≡ child_position step t → StepsInto form t step None
  no_position none = rw (← none) refl

  pub no_children : children_of t ≡ None → StepsInto form t step None
  no_children none = grind (arith, no_position)

  pub no_child : (n : ℕ) (others : Entries) (found : Option (StoredEntry × Entries)) → Some n ≡ child_position step t → found ≡ None
      → TakesFirst form others (drop n (children t)) found → StepsInto form t step None
  no_child n others found position none h = grind (arith, no_such_element, no_entry_left)

  pub step_into : (e : ContainerEntries) (p : ParentEntries) (n : ℕ) (entry : StoredEntry) → AreEntriesOf form t e → Some n ≡ child_position step t
      → p.kind ≡ e.kind → p.keys ≡ e.keys → (f : ChildTaken form (children t) n entry p.after) → HoldTrees form p.front (take n (children t))
      → p.others ≡ length (take n (children t)) + length (drop (suc n) (children t)) → StepsInto form t step (Some (p, entry))
  step_into e p n entry h position kind same f front is = (
    n,
    f.child,
    sym position,
    f.at,
    parent_of form t e p n f.child h kind same front f.after_hold is f.inside f.at,
    record { container = λ k. record { document = inl (rw k at f.part) }; scalar = λ other. not_container form f.child _ _ f.part other },
  )

-- ---- the way to the value

pub lead_more : (form : Form) (ps : List ParentEntries) (ns : List ℕ) (t u child : Tree) (p : ParentEntries) (n : ℕ) → LeadTo form ps ns t u
    → IsParent form p u n child → LeadTo form (ps ++ p ∷ []) (ns ++ n ∷ []) t child
lead_more form [] [] t u child p n led is = (child, subst (λ v. IsParent form p v n child) (sym led) is, refl)
lead_more form (q ∷ ps) (m ∷ ns) t u child p n led is = (led.0, led.1, lead_more form ps ns led.0 u child p n led.2 is)
lead_more form _ _ t u child p n led is = absurd led

pub makes_kept : (form : Form) (p : ParentEntries) (ps : List ParentEntries) (t child end : Tree) (n : ℕ) (ns : List ℕ) (kept : ℕ) → IsParent form p t n child
    → LeadTo form ps ns child end → kept ≡ children_kept p ps → Make p.kind kept (entries_kept t n child ns) (change_child n (remove_at ns) t)
makes_kept form p ps t child end n ns kept is led same = grind arith

pub no_more : (form : Form) (ps : List ParentEntries) (ns : List ℕ) (t end : Tree) → ps ≡ [] → LeadTo form ps ns t end → ns ≡ []
no_more form ps ns t end none led = grind arith

-- The entries of a container that are not written yet, which is in these containers and around those.
pub record IsOpening (form : Form) (w : Writer) (around : List Outer) (p : ParentEntries) (ps : List ParentEntries) (whole : Tree) : Type 0 where
  pub t : Tree
  pub child : Tree
  pub end : Tree
  pub n : ℕ
  pub ns : List ℕ
  pub outside : Around
  pub parent : IsParent form p t n child
  pub inner : LeadTo form ps ns child end
  pub are_left : AreLeft form (reverse around) outside
  pub writing : IsWriting form w (entries_kept t n child ns) outside whole

-- The entries that are not written yet, given the next of the containers within the open one.
pub record OpensNext (form : Form) (w : Writer) (around : List Outer) (p q : ParentEntries) (qs : List ParentEntries) (whole : Tree) : Type 0 where
  pub t : Tree
  pub child : Tree
  pub inner : Tree
  pub end : Tree
  pub n : ℕ
  pub m : ℕ
  pub ns : List ℕ
  pub outside : Around
  pub parent : IsParent form p t n child
  pub next : IsParent form q child m inner
  pub others : LeadTo form qs ns inner end
  pub are_left : AreLeft form (reverse around) outside
  pub writing : IsWriting form w (entries_kept t n child (m ∷ ns)) outside whole

pub opening_begun : (form : Form) (w : Writer) (around : List Outer) (p : ParentEntries) (ps : List ParentEntries) (t end : Tree) (n : ℕ) (ns : List ℕ)
    → around ≡ [] → (led : LeadTo form (p ∷ ps) (n ∷ ns) t end) → IsWriting form w (entries_kept t n led.0 ns) [] (change_child n (remove_at ns) t)
    → IsOpening form w around p ps (change_child n (remove_at ns) t)
opening_begun form w around p ps t end n ns none led writing = grind arith

module _ (form : Form) (w : Writer) (around : List Outer) (p : ParentEntries) (ps : List ParentEntries) (whole : Tree)
    (o : IsOpening form w around p ps whole) where
  pub opens_next : (q : ParentEntries) (qs : List ParentEntries) → ps ≡ q ∷ qs → OpensNext form w around p q qs whole
  opens_next q qs is = go o.ns (subst (λ rs. LeadTo form rs o.ns o.child o.end) is o.inner) o.writing
    where
      go : (ns : List ℕ) → LeadTo form (q ∷ qs) ns o.child o.end → IsWriting form w (entries_kept o.t o.n o.child ns) o.outside whole
          → OpensNext form w around p q qs whole
      go [] led writing = absurd led
      go (m ∷ ns) led writing = record {
        t = o.t;
        child = o.child;
        inner = led.0;
        end = o.end;
        n = o.n;
        m = m;
        ns = ns;
        outside = o.outside;
        parent = o.parent;
        next = led.1;
        others = led.2;
        are_left = o.are_left;
        writing = writing;
      }

  pub opens_none : ps ≡ [] → IsWriting form w (entries_kept o.t o.n o.child []) o.outside whole
  opens_none is = grind arith

-- the runs around one entry
pub held_around : (form : Form) (front back : Entries) (ts : List Tree) (n passed : ℕ) → passed ≡ n
    → HoldTrees form front (take passed ts) × HoldTrees form back (drop 1 (drop passed ts))
    → HoldTrees form front (take n ts) × HoldTrees form back (drop (suc n) ts)
held_around form front back ts n passed is h = (rw is at h.0, rw (is, drop_one_more) at h.1)

-- a run without words holds no trees
pub no_trees_held : (form : Form) (run : Entries) (ts : List Tree) → HoldTrees form run ts → length run.words.now ≡ 0 → ts ≡ []
no_trees_held form run [] h none = refl
no_trees_held form run (t ∷ ts) h none = let e = h.entries in absurd (omega (arith, none, ap length e.begin.words_joined))

-- the entries around the ones that are left out, in runs
pub in_runs : (names front after : List Tree) (n passed : ℕ) → passed ≡ n
    → remove names n ++ (front ++ after) ≡ take passed names ++ (drop 1 (drop passed names) ++ (front ++ (after ++ [])))
in_runs names front after n passed is = grind (arith, append_assoc, drop_one_more, append-nil)

-- ---- numbers of bytes

pub all_behind : (ps : List ParentEntries) (i : ℕ) → take (length ps - i) (drop i ps) ≡ drop i ps
all_behind ps i = take_all (length ps - i) (drop i ps) (omega (arith, length-drop i ps))

pub kept_at_most : (p : ParentEntries) (ps : List ParentEntries) → children_kept p ps ≤ p.others + 1
kept_at_most p ps = grind arith

pub head_less : (kind : HeaderKind) (m n : ℕ) → m ≤ n → head_size kind m ≤ head_size kind n
head_less kind m n h = grind arith

sizes_more : (ps : List ParentEntries) (p : ParentEntries) → sizes (ps ++ p ∷ []) ≡ sizes ps + size p
sizes_more [] p = omega arith
sizes_more (q ∷ ps) p = omega (arith, sizes_more ps p)

pub short_more : (ps ps' : List ParentEntries) (p : ParentEntries) (len len' : ℕ) → ps' ≡ ps ++ p ∷ [] → AreShort ps len → size p + len' ≤ len
    → len' < 2 ^ 28 → AreShort ps' len'
short_more ps ps' p len len' is short within fits = grind (arith, sizes_more)

pub room_less : (start end end' : ℕ) (around : Rooms) → end' ≤ end → EndsWithin start end around → EndsWithin start end' around
room_less start end end' [] less h = tt
room_less start end end' (o ∷ os) less h = grind (arith, room_less o.0.start (end + o.1) (end' + o.1) os (omega arith) h.1)

-- if nothing more comes, no more is written
pub room_none : (start len : ℕ) (around : Rooms) (coming : ℕ) → EndsWithin start (len + coming) around → EndsWithin start (len + (coming + 0)) around
room_none start len around coming h = room_less start (len + coming) (len + (coming + 0)) around (omega arith) h

pub rooms_pushed : (around around' : List Outer) (o : Outer) → around' ≡ around ++ o ∷ []
    → rooms_after (reverse around') ≡ (o.open, length o.after.contents.now) ∷ rooms_after (reverse around)
rooms_pushed around around' o is = ap (λ os. rooms_after (reverse os)) is ∙ ap rooms_after (innermost around o)

-- The containers lead to a tree, whose entry this is. What the steps that are left select there is, after the positions so
-- far, what is expected.
pub record Walked (form : Form) (t : Tree) (parents : List ParentEntries) (entry : StoredEntry) (steps : List Key) (wanted : Option (List ℕ)) : Type 0 where
  pub passed : List ℕ
  pub here : Tree
  pub led : LeadTo form parents passed t here
  pub holds : HoldsValue form entry here
  pub left : option_map (λ ns. passed ++ ns) (location steps here) ≡ wanted

pub walk_begun : (form : Form) (t : Tree) (parents : List ParentEntries) (entry : StoredEntry) (steps : List Key) → parents ≡ [] → HoldsValue form entry t
    → Walked form t parents entry steps (location steps t)
walk_begun form t parents entry steps none holds =
    record { passed = []; here = t; led = subst (λ ps. LeadTo form ps [] t t) (sym none) refl; holds = holds; left = by (location steps t) }
  where
    by : (o : Option (List ℕ)) → option_map (λ ns. [] ++ ns) o ≡ o
    by o = grind arith

behind : (passed : List ℕ) (n : ℕ) (o : Option (List ℕ))
    → option_map (λ ns. passed ++ ns) (option_map (λ ns. n ∷ ns) o) ≡ option_map (λ ns. (passed ++ n ∷ []) ++ ns) o
behind passed n o = grind (arith, append_assoc)

module _ (form : Form) (t : Tree) (parents : List ParentEntries) (entry : StoredEntry) (step : Key) (now steps : List Key) (wanted : Option (List ℕ))
    (is : now ≡ step ∷ steps) (w : Walked form t parents entry now wanted) where
  here_left : option_map (λ ns. w.passed ++ ns) (location (step ∷ steps) w.here) ≡ wanted
  here_left = subst (λ keys. option_map (λ ns. w.passed ++ ns) (location keys w.here) ≡ wanted) is w.left

  -- one child more is selected
  pub met_next : (p : ParentEntries) (child : StoredEntry) (parents' : List ParentEntries) → parents' ≡ parents ++ p ∷ []
      → StepsInto form w.here step (Some (p, child)) → Walked form t parents' child steps wanted
  met_next p child parents' more (n, u, meets, at, parent, holds) =
      search (arith, u, more, lead_more form parents w.passed t w.here u p n w.led parent, holds, behind w.passed n (location steps u), here_left)

  -- the step selects nothing
  pub met_none : StepsInto form w.here step None → wanted ≡ None
  met_none none = grind (arith, here_left)

-- the way to the place that was found, or none
pub no_place : (form : Form) (t : Tree) (found : Option (List ℕ)) → SameOption (λ (v : Vec ParentEntries Global) ns. Leads form v.items ns t) None found
    → found ≡ None
no_place form t found h = grind arith

pub some_place : (form : Form) (t : Tree) (v : Vec ParentEntries Global) (found : Option (List ℕ))
    → SameOption (λ (v : Vec ParentEntries Global) ns. Leads form v.items ns t) (Some v) found → (ns : List ℕ) × (found ≡ Some ns) × Leads form v.items ns t
some_place form t v found h = grind arith

pub place_is : (form : Form) (t : Tree) (v : Vec ParentEntries Global) (found : Option (List ℕ))
    → (ns : List ℕ) × (found ≡ Some ns) × Leads form v.items ns t → SameOption (λ (v : Vec ParentEntries Global) ns. Leads form v.items ns t) (Some v) found
place_is form t v found (ns, is, led) = rw is led

-- the way to the whole
pub no_way : (form : Form) (ps : List ParentEntries) (ns : List ℕ) (t : Tree) → ps ≡ [] → Leads form ps ns t → ns ≡ []
no_way form ps ns t none (end, led) = no_more form ps ns t end none led

-- ---- the same document

pub same_decodes : (form : Form) (bytes : List ℕ) (t left : Tree) (r : Result (List ℕ) Error) → left ≡ t → Decodes form bytes t
    → MatchResult r (λ made. made ≡ bytes) IsOutOfMemory
    → MatchResult r (λ made. Decodes form made left) IsOutOfMemory
same_decodes form bytes t left r h e k = grind arith

pub without_none : (steps : List Key) (t : Tree) → location steps t ≡ None → without steps t ≡ t
without_none steps t e = rw e refl

-- steps that select a part don't select none
pub part_met : (steps : List Key) (t : Tree) (n : ℕ) (ns : List ℕ) → location steps t ≡ Some (n ∷ ns) → MeetNoPart steps t → ⊥
part_met steps t n ns h e = grind arith

-- ---- a document

-- the way to a part
pub record PartOut (form : Form) (t : Tree) (p : ParentEntries) (ps : List ParentEntries) (found : Option (List ℕ)) : Type 0 where
  pub n : ℕ
  pub ns : List ℕ
  pub end : Tree
  pub is : found ≡ Some (n ∷ ns)
  pub led : LeadTo form (p ∷ ps) (n ∷ ns) t end

pub part_out : (form : Form) (t : Tree) (v : Vec ParentEntries Global) (found : Option (List ℕ)) (p : ParentEntries) (ps : List ParentEntries)
    → v.items ≡ p ∷ ps → SameOption (λ (v : Vec ParentEntries Global) ns. Leads form v.items ns t) (Some v) found → PartOut form t p ps found
part_out form t v found p ps split h = grind (arith, some_place)

pub without_part : (steps : List Key) (t : Tree) (n : ℕ) (ns : List ℕ) → location steps t ≡ Some (n ∷ ns) → without steps t ≡ change_child n (remove_at ns) t
without_part steps t n ns e = rw e refl
