-- A walk to the first item that steps lead to, in lax mode: what is left, the innermost first, gives the list of the
-- whole.
use Rattle.jsonb.proofs.Common.{◌≡◌, ℕ, ◌+◌, ◌<◌, List, [], ◌∷◌, ◌++◌, length, take, get_or, map, inl, Bool, true, false, Option, Some, None, is_some, Result, Ok, Err, IsOkAnd, refl, sym, ap, subst, ◌∙◌, append-nil, reverse, map-append, take_more, Outcome, and_then, Refines, SameOption, IsOutOfMemory, Form, Locates, Tree, Error, Spot, Step, Expression, steps_of, step_view, steps_view, AllZip, step_meaning, steps_meaning, truth, filtered, first_item, RefinesIfAny, has_condition, FirstAhead, AreAhead, IsAhead, TakesStep, HasItems, TakesItem, AreGiven, IsReached, BeginsAs, IsAt, IsPlain, is_filter, node_spots, option_spots, taken_step, tests_in, AreTestsOf, HasSame, AreDropped, Document, Path, Expressions, Lax, Condition, Ahead, Items, StepItems, NodeList, arith, Waiting}
use Rattle.jsonb.specs.PathTree as math
use Rattle.jsonb_doc.proofs.Basics.{innermost}
use Rattle.jsonb.specs.Private.Search.{IsTested}
use Rattle.jsonb.proofs.RepeatLemmas.{alike_first}
use Rattle.jsonb.specs.declared.selector.children.StepItems.TheVariants as given
use Rattle.jsonb.specs.declared.selector.search.Reached.TheVariants as reached
use Rattle.jsonb.specs.declared.selector.selected.Selected.TheVariants as selected
use Rattle.jsonb.proofs.ComparedLemmas.{Any, AreTotal, listed_total, steps_total}
use Rattle.jsonb.proofs.RefinesLemmas.{with_ok, continued, given_by, refused_as}
use Rattle.jsonb.proofs.ListLemmas.{both_lists, none_in_front, both_lists-assoc, steps_in_parts}
use Rattle.jsonb.proofs.MemberLemmas.{none_left, no_member, one_member}
use Rattle.jsonb.proofs.Progress.{First}
use Rattle.jsonb.proofs.StepLemmas.{joined_one}
use Rattle.jsonb.proofs.TestLemmas.{condition_total}

-- ---- none of these steps is refused

pub no_filter : (s : Step) → has_condition s ≡ false → is_filter s ≡ false
no_filter s h = grind arith

pub plain_total : (s : Step) (top t : Tree) → has_condition s ≡ false → IsOkAnd (step_meaning Lax s top t) Any
plain_total s top t h = grind (arith, listed_total)

pub filter_total : (condition : Condition) (e : Expression) (top t : Tree) → AreTestsOf (tests_in condition) e
    → IsOkAnd (step_meaning Lax (math.filter e) top t) Any
filter_total condition e top t h =
    with_ok Any (λ o. IsOkAnd o Any) (truth Lax e top t) (λ b. Ok (filtered t b)) (condition_total (tests_in condition) e top t h) (λ b _. tt)

tested_total : (condition : Condition) (s : Step) (top t : Tree) → IsTested condition s → IsOkAnd (step_meaning Lax s top t) Any
tested_total condition s top t h = subst (λ z. IsOkAnd (step_meaning Lax z top t) Any) (sym h.1) (filter_total condition h.0 top t h.2)

-- the first of the steps
first_total : (b : Bool) (path : Path) (s : Step) (conditions : List Condition) (Others : List Condition → Type 0) (top t : Tree)
    → b ≡ has_condition (step_view path) → FirstAhead b path s conditions Others → IsOkAnd (step_meaning Lax s top t) Any
first_total false path s conditions Others top t is h =
    subst (λ z. IsOkAnd (step_meaning Lax z top t) Any) (sym h.0) (plain_total (step_view path) top t (sym is))
first_total true path s [] Others top t is h = absurd h
first_total true path s (condition ∷ conditions) Others top t is h = tested_total condition s top t h.0

others_total : (b : Bool) (path : Path) (s : Step) (conditions : List Condition) (Others : List Condition → Type 0) {A : Type 0}
    → ((others : List Condition) → Others others → A) → FirstAhead b path s conditions Others → A
others_total b path s conditions Others go h = grind arith

all_ahead : (paths : List Path) (ss : List Step) (conditions : List Condition) → AreAhead paths ss conditions → AreTotal ss
all_ahead [] [] conditions h = tt
all_ahead [] (s ∷ ss) conditions h = absurd h
all_ahead (path ∷ paths) [] conditions h = absurd h
all_ahead (path ∷ paths) (s ∷ ss) conditions h = (
  λ top t. first_total (has_condition (step_view path)) path s conditions (λ others. AreAhead paths ss others) top t refl h,
  others_total (has_condition (step_view path)) path s conditions (λ others. AreAhead paths ss others)
      (λ others left. all_ahead paths ss others left) h,
)

pub all_searched : (ahead : Ahead) (ss : List Step) → IsAhead ahead ss → AreTotal ss
all_searched ahead ss h = all_ahead ahead.steps.now ss ahead.conditions.now h

-- ---- the steps ahead, one after the other

pub no_steps_ahead : (paths : List Path) (ss : List Step) (conditions : List Condition) → paths ≡ [] → AreAhead paths ss conditions → ss ≡ []
no_steps_ahead paths ss conditions none h = grind arith

-- the first step is not a filter
pub plain_ahead : (paths : List Path) (ss : List Step) (conditions : List Condition) (path : Path) (others : List Path) → paths ≡ path ∷ others
    → has_condition (step_view path) ≡ false → AreAhead paths ss conditions
    → (rest : List Step) × (ss ≡ step_view path ∷ rest) × AreAhead others rest conditions
plain_ahead [] ss conditions path others is plain h = cc
plain_ahead (p ∷ ps) [] conditions path others is plain h = absurd h
plain_ahead (p ∷ ps) (s ∷ ss) conditions path others is plain h = grind arith

-- the first step is a filter
pub tested_ahead : (paths : List Path) (ss : List Step) (conditions : List Condition) (path : Path) (others : List Path) (condition : Condition)
    (more : List Condition) → paths ≡ path ∷ others → has_condition (step_view path) ≡ true → conditions ≡ condition ∷ more → AreAhead paths ss conditions
    → (e : Expression) × (rest : List Step) × (ss ≡ math.filter e ∷ rest) × AreTestsOf (tests_in condition) e × AreAhead others rest more
tested_ahead [] ss conditions path others condition more is tested begins h = cc
tested_ahead (p ∷ ps) [] conditions path others condition more is tested begins h = absurd h
tested_ahead (p ∷ ps) (s ∷ ss) conditions path others condition more is tested begins h = grind arith

pub no_condition_ahead : {A : Type 0} (paths : List Path) (ss : List Step) (conditions : List Condition) (path : Path) (others : List Path)
    → paths ≡ path ∷ others → has_condition (step_view path) ≡ true → conditions ≡ [] → AreAhead paths ss conditions → A
no_condition_ahead [] ss conditions path others is tested none h = cc
no_condition_ahead (p ∷ ps) [] conditions path others is tested none h = absurd h
no_condition_ahead (p ∷ ps) (s ∷ ss) conditions path others is tested none h = grind arith

-- if there is a value, only an allocation fails
pub memory_alone : {A : Type 0} {R : A → List Tree → Type 0} {e : Error} (o : Outcome (List Tree)) → IsOkAnd o Any → Refines R IsOutOfMemory (Err e) o
    → IsOutOfMemory e
memory_alone o a h = grind arith

-- one step of an item, and those after it
step_taken : (P : List Tree → Type 0) (s : Step) (ss rest : List Step) (top u : Tree) → rest ≡ s ∷ ss → IsOkAnd (step_meaning Lax s top u) P
    → (us : List Tree) × P us × (steps_meaning Lax (steps_of rest) top (u ∷ []) ≡ steps_meaning Lax (steps_of ss) top us)
step_taken P s ss rest top u is h =
    let k = continued P (step_meaning Lax s top u) (steps_meaning Lax (steps_of ss) top) h in (
      k.0,
      k.1,
      ap (λ l. steps_meaning Lax (steps_of l) top (u ∷ [])) is
          ∙ ap (λ o. and_then o (steps_meaning Lax (steps_of ss) top)) (joined_one (step_meaning Lax s top) u)
          ∙ k.2,
    )

pub step_given : (bytes : List ℕ) (s : Step) (rest ss : List Step) (top t : Tree) (g : StepItems) (after : Ahead) → ss ≡ s ∷ rest → IsAhead after rest
    → Refines (AreGiven bytes) IsOutOfMemory (Ok g) (step_meaning Lax s top t) → TakesStep bytes top t ss (Some (g, after))
step_given bytes s rest ss top t g after is left h =
    let k = step_taken (AreGiven bytes g) s rest ss top t is h.ok in
    (k.0, rest, k.1, left, k.2)

-- ---- the conditions of the steps so far

last_ahead : (paths : List Path) (ss : List Step) (conditions more : List Condition) (path : Path) (s : Step) → AreAhead (path ∷ []) (s ∷ []) more
    → AreAhead paths ss conditions → AreAhead (paths ++ path ∷ []) (ss ++ s ∷ []) (conditions ++ more)
last_ahead [] [] [] more path s k h = k
last_ahead (q ∷ paths) (r ∷ ss) conditions more path s k h = grind (arith, last_ahead paths ss)
last_ahead _ _ conditions more path s k h = absurd h

-- one more step of a search
pub searched_more : (expressions : Expressions) (steps : List Path) (i : ℕ) (s : Path) (conditions : List Condition) → i < length steps
    → s ≡ get_or steps i s
    → AreAhead (take i steps ++ s ∷ []) (map (taken_step expressions) (steps_view (take i steps)) ++ taken_step expressions (step_view s) ∷ []) conditions
    → AreAhead (take (i + 1) steps) (map (taken_step expressions) (steps_view (take (i + 1) steps))) conditions
searched_more expressions steps i s conditions short is h =
    rw (sym (take_more steps i s short ∙ ap (λ y. take i steps ++ y ∷ []) (sym is))) at
    (rw (sym (ap (map (taken_step expressions)) (map-append step_view (take i steps) (s ∷ []))
    ∙ map-append (taken_step expressions) (steps_view (take i steps)) (step_view s ∷ []))) at h)

pub plain_last : (expressions : Expressions) (paths : List Path) (ss : List Step) (conditions : List Condition) (path : Path)
    → has_condition (step_view path) ≡ false → IsPlain expressions (step_view path) → AreAhead paths ss conditions
    → AreAhead (paths ++ path ∷ []) (ss ++ taken_step expressions (step_view path) ∷ []) conditions
plain_last expressions paths ss conditions path plain same h =
    rw (append-nil conditions) at (last_ahead paths ss conditions [] path (taken_step expressions (step_view path))
    (subst (λ b. FirstAhead b path (taken_step expressions (step_view path)) [] (λ others. AreAhead [] [] others)) (sym plain) (same.1, tt)) h)

pub tested_last : (expressions : Expressions) (paths : List Path) (ss : List Step) (conditions : List Condition) (path : Path) (condition : Condition)
    (e : Expression) → taken_step expressions (step_view path) ≡ math.filter e → AreTestsOf (tests_in condition) e → AreAhead paths ss conditions
    → AreAhead (paths ++ path ∷ []) (ss ++ taken_step expressions (step_view path) ∷ []) (conditions ++ condition ∷ [])
tested_last expressions paths ss conditions path condition e same plain h = grind (arith, last_ahead)

-- ---- what is left, the innermost first

-- items, and the steps before them
abbrev pub Left : Type 0
Left = List Tree × List Step

abbrev pub left_over : Tree → List Left → Outcome (List Tree)
left_over top [] = Ok []
left_over top (l ∷ ls) = both_lists (steps_meaning Lax (steps_of l.1) top l.0) (left_over top ls)

abbrev pub HaveLeft : List ℕ → List Waiting → List Left → Type 0
HaveLeft bytes [] [] = Unit {0}
HaveLeft bytes (w ∷ ws) (l ∷ ls) = HasItems bytes w.items l.0 × IsAhead w.ahead l.1 × HaveLeft bytes ws ls
HaveLeft bytes _ _ = ⊥

none_behind : (o : Outcome (List Tree)) → o ≡ both_lists o (Ok [])
none_behind o = grind (arith, append-nil)

-- a list that does not fail begins with its first item
first_of_all : (bytes : List ℕ) (x : Spot) (us : List Tree) (o p : Outcome (List Tree)) → AllZip (Locates bytes) (option_spots (Some x)) us → IsOkAnd o Any
    → IsOkAnd p Any → IsOkAnd (both_lists (both_lists (Ok us) o) p) (λ all. SameOption (Locates bytes) (Some x) (first_item all))
first_of_all bytes x us o p h a b = grind arith

-- the item that is taken comes first
pub taken_first : (bytes : List ℕ) (r : Result Spot Error) (spot : Spot) (after : Items) (ts : List Tree) → r ≡ Ok spot → TakesItem bytes ts (Some r) after
    → First (HasItems bytes after) (Locates bytes spot) ts
taken_first bytes r spot after ts is h = go ts (rw is at h)
  where
    go : (ts : List Tree) → TakesItem bytes ts (Some (Ok spot)) after → First (HasItems bytes after) (Locates bytes spot) ts
    go [] h = absurd h
    go (t ∷ ts) h = record { first = t; others = ts; whole = refl; holds = h.0; left = h.1 }

pub taken_none : (bytes : List ℕ) (after : Items) (ts : List Tree) → TakesItem bytes ts None after → ts ≡ []
taken_none bytes after ts h = grind arith

-- what a step gives: none, or one
pub given_none : (bytes : List ℕ) (g : StepItems) (us : List Tree) → g ≡ given.AtMostOne None → AreGiven bytes g us → us ≡ []
given_none bytes g us is h = no_member (Locates bytes) None us refl (rw is at h)

pub given_one : (bytes : List ℕ) (g : StepItems) (x : Spot) (us : List Tree) → g ≡ given.AtMostOne (Some x) → AreGiven bytes g us
    → (t : Tree) × (us ≡ t ∷ []) × Locates bytes x t
given_one bytes g x us is h = one_member (Locates bytes) (Some x) x us refl (rw is at h)

-- the first of one item at most
at_most_first : (bytes : List ℕ) (found : Option Spot) (us : List Tree) → AllZip (Locates bytes) (option_spots found) us
    → SameOption (Locates bytes) found (first_item us)
at_most_first bytes found us h = grind arith

pub first_member : (bytes : List ℕ) (found : Option Spot) (o : Outcome (List Tree))
    → Refines {A = Option Spot} (λ f us. AllZip (Locates bytes) (option_spots f) us) IsOutOfMemory (Ok found) o
    → Refines {A = Option Spot} (λ f us. SameOption (Locates bytes) f (first_item us)) IsOutOfMemory (Ok found) o
first_member bytes found o h = given_by h (λ us a. record { ok = at_most_first bytes found us a; err = tt })

-- an error of the steps
pub first_refused_too : {A B C : Type 0} (R : A → C → Type 0) {Q : B → C → Type 0} (r : Outcome (Option A)) (o : Outcome C) {e : Error} → r ≡ Err e
    → Refines Q IsOutOfMemory (Err e) o → RefinesIfAny R r o
first_refused_too R r o is h = subst (λ x. RefinesIfAny R x o) (sym is) (refused_as h)

-- one item at most is all that the steps lead to
pub found_at_most : (bytes : List ℕ) (found : Option Spot) (us : List Tree) (o : Outcome (List Tree)) → AllZip (Locates bytes) (option_spots found) us
    → o ≡ Ok us → Refines {A = Option Spot} (λ f ts. SameOption (Locates bytes) f (first_item ts)) IsOutOfMemory (Ok found) o
found_at_most bytes found us o h is = grind (arith, at_most_first)

-- what is left of the innermost items, and of those around, which a `Vec` holds with the innermost last, gives the list
pub record Searching (bytes : List ℕ) (top : Tree) (Here : List Tree → Type 0) (ahead : Ahead) (around : List Waiting)
    (whole : Outcome (List Tree)) : Type 0 where
  pub here : List Tree
  pub rest : List Step
  pub others : List Left
  pub left : Here here
  pub searched : IsAhead ahead rest
  pub left_around : HaveLeft bytes (reverse around) others
  pub is : whole ≡ both_lists (steps_meaning Lax (steps_of rest) top here) (left_over top others)

module _ (bytes : List ℕ) (top : Tree) where
  over_total : (ws : List Waiting) (ls : List Left) → HaveLeft bytes ws ls → IsOkAnd (left_over top ls) Any
  over_total [] [] h = tt
  over_total (w ∷ ws) (l ∷ ls) h = grind (arith, steps_total l.1 top l.0 (all_searched w.ahead l.1 h.1), over_total ws ls h.2)
  over_total _ _ h = absurd h

  pub search_begun : (inner : Waiting) (around : List Waiting) (t : Tree) (ss : List Step) → around ≡ [] → IsReached bytes top t ss (reached.Many inner)
      → Searching bytes top (HasItems bytes inner.items) inner.ahead around (steps_meaning Lax (steps_of ss) top (t ∷ []))
  search_begun inner around t ss none k = record {
    here = k.0;
    rest = k.1;
    others = [];
    left = k.2;
    searched = k.3;
    left_around = subst (λ l. HaveLeft bytes (reverse l) []) (sym none) tt;
    is = k.4 ∙ none_behind _;
  }

  module _ {Here : List Tree → Type 0} {ahead : Ahead} {around : List Waiting} {whole : Outcome (List Tree)}
      (w : Searching bytes top Here ahead around whole) where
    -- the first of the items that are left, and the others
    cut_first : {P : Tree → Type 0} {Others : List Tree → Type 0} (f : First Others P w.here) →
        whole ≡ both_lists (both_lists (steps_meaning Lax (steps_of w.rest) top (f.first ∷ [])) (steps_meaning Lax (steps_of w.rest) top f.others))
        (left_over top w.others)
    cut_first f = w.is
        ∙ ap (λ l. both_lists (steps_meaning Lax (steps_of w.rest) top l) (left_over top w.others)) f.whole
        ∙ ap (λ o. both_lists o (left_over top w.others))
        (steps_in_parts w.rest top (f.first ∷ []) f.others (all_searched ahead w.rest w.searched))

    pub item_found : {P : Tree → Type 0} {Others : List Tree → Type 0} (x : Spot) (f : First Others P w.here)
        → IsReached bytes top f.first w.rest (reached.AtMostOne (Some x))
        → IsOkAnd whole (λ all. SameOption (Locates bytes) (Some x) (first_item all))
    item_found x f k = rw (sym (cut_first f
        ∙ ap (λ o. both_lists (both_lists o (steps_meaning Lax (steps_of w.rest) top f.others)) (left_over top w.others)) k.2)) at
        (first_of_all bytes x k.0 _ _ k.1 (steps_total w.rest top f.others (all_searched ahead w.rest w.searched))
        (over_total (reverse around) w.others w.left_around))

    pub item_passed : {P : Tree → Type 0} {Others : List Tree → Type 0} (f : First Others P w.here)
        → IsReached bytes top f.first w.rest (reached.AtMostOne None) → Searching bytes top Others ahead around whole
    item_passed f k = record {
      here = f.others;
      rest = w.rest;
      others = w.others;
      left = f.left;
      searched = w.searched;
      left_around = w.left_around;
      is = cut_first f
          ∙ ap (λ o. both_lists (both_lists o (steps_meaning Lax (steps_of w.rest) top f.others)) (left_over top w.others))
          (k.2 ∙ ap Ok (no_items k.0 k.1))
          ∙ ap (λ o. both_lists o (left_over top w.others)) (sym (none_in_front _));
    }
      where
        no_items : (us : List Tree) → AllZip (Locates bytes) [] us → us ≡ []
        no_items us h = grind arith

    pub items_entered : {P : Tree → Type 0} (within' inner : Waiting) (around' : List Waiting) (f : First (HasItems bytes within'.items) P w.here)
        → within'.ahead ≡ ahead → around' ≡ around ++ within' ∷ [] → IsReached bytes top f.first w.rest (reached.Many inner)
        → Searching bytes top (HasItems bytes inner.items) inner.ahead around' whole
    items_entered within' inner around' f same pushed k = record {
      here = k.0;
      rest = k.1;
      others = (f.others, w.rest) ∷ w.others;
      left = k.2;
      searched = k.3;
      left_around = subst (λ l. HaveLeft bytes l ((f.others, w.rest) ∷ w.others)) (sym (ap reverse pushed ∙ innermost around within'))
          (f.left, rw (sym same) at w.searched, w.left_around);
      is = cut_first f
          ∙ ap (λ o. both_lists (both_lists o (steps_meaning Lax (steps_of w.rest) top f.others)) (left_over top w.others)) k.4
          ∙ sym (both_lists-assoc (steps_meaning Lax (steps_of k.1) top k.0) (steps_meaning Lax (steps_of w.rest) top f.others) (left_over top w.others));
    }

    all_passed : w.here ≡ [] → whole ≡ left_over top w.others
    all_passed none = grind (arith, none_left, none_in_front)

    pub items_done : (outer : Waiting) (around' : List Waiting) → w.here ≡ [] → around ≡ around' ++ outer ∷ []
        → Searching bytes top (HasItems bytes outer.items) outer.ahead around' whole
    items_done outer around' none e = go w.others (rw (ap reverse e ∙ innermost around' outer) at w.left_around)
        (all_passed none)
      where
        go : (ls : List Left) → HaveLeft bytes (outer ∷ reverse around') ls → whole ≡ left_over top ls
            → Searching bytes top (HasItems bytes outer.items) outer.ahead around' whole
        go [] h is = absurd h
        go (l ∷ ls) h is = record { here = l.0; rest = l.1; others = ls; left = h.0; searched = h.1; left_around = h.2; is = is }

    pub search_done : w.here ≡ [] → around ≡ [] → whole ≡ Ok []
    search_done none e = grind (arith, all_passed)

-- a failed allocation
pub refused_if_any : {A B : Type 0} (R : A → B → Type 0) (r : Outcome (Option A)) (o : Outcome B) {e : Error} → r ≡ Err e → IsOutOfMemory e
    → RefinesIfAny R r o
refused_if_any R r o is memory = subst (λ x. RefinesIfAny R x o) (sym is) (record { ok = tt; err = inl memory })

-- ---- the first item alone

-- whether it is there
pub found_any : (R : Spot → Tree → Type 0) (found : Option Spot) (b : Bool) (o : Outcome (List Tree)) → b ≡ is_some found
    → Refines {A = Option Spot} (λ f us. SameOption R f (first_item us)) IsOutOfMemory (Ok found) o
    → Refines {A = Bool} (λ c us. c ≡ is_some (first_item us)) IsOutOfMemory (Ok b) o
found_any R found b o is h = grind arith

module _ (form : Form) (document : Document) where
  pub begins_same : (nodes : NodeList) (o : Outcome (List Tree)) → IsOkAnd o (HasSame AreDropped document.bytes.now (node_spots nodes))
      → Refines (BeginsAs form document) IsOutOfMemory (Ok (selected.Nodes nodes)) o
  begins_same nodes o h = grind (arith, alike_first)

  pub begins_found : (nodes : NodeList) (found : Option Spot) (o : Outcome (List Tree)) → node_spots nodes ≡ option_spots found
      → Refines {A = Option Spot} (λ f ts. SameOption (IsAt document) f (first_item ts)) IsOutOfMemory (Ok found) o
      → Refines (BeginsAs form document) IsOutOfMemory (Ok (selected.Nodes nodes)) o
  begins_found nodes found (Ok ts) is h = record { ok = go found ts is h.ok; err = tt }
    where
      go : (f : Option Spot) (ts : List Tree) → node_spots nodes ≡ option_spots f → SameOption (IsAt document) f (first_item ts)
          → BeginsAs form document (selected.Nodes nodes) ts
      go None [] is h = ([], subst (λ l. AllZip (IsAt document) l []) (sym is) tt, refl)
      go None (t ∷ ts) is h = absurd h
      go (Some x) [] is h = absurd h
      go (Some x) (t ∷ ts) is h = (t ∷ [], subst (λ l. AllZip (IsAt document) l (t ∷ [])) (sym is) (h, tt), refl)
  begins_found nodes found (Err e) is h = absurd h.ok
