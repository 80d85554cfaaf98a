-- What waits for a path, before and after a filter within it.
use Rattle.std.specs.List.{AllByRecursion}
use Rattle.jsonb.proofs.Common.{◌≤◌, ◌==◌, false, Some, None, Option, IfSome, Truth, Context, Expression, filter, filtered_after, steps_weight, step_weight, drop_of_length-le, WaitsFor, ◌≡◌, ℕ, ◌+◌, ◌<◌, List, [], ◌∷◌, ◌++◌, length, get_or, drop, reverse, reverse-append, Ok, Err, refl, sym, ap, ◌∙◌, subst, arith, AllZip, Outcome, and_then, try_flat_map, Locates, Tree, step_meaning, steps_meaning, step_view, Path, Mode, NodeList, IsList, AreLists, Column, HasSome, flat, results, path_steps, append-nil, node_spots, drop-cons, add-one, suc}
use Rattle.jsonb.specs.declared.selector.column.Column.TheVariants as column
use Rattle.jsonb.specs.declared.selector.expressions.Frame.{Frame}
use Rattle.jsonb.specs.declared.selector.expressions.Waits.{Waits}
use Rattle.jsonb.proofs.ColumnLemmas.{each_as}
use Rattle.jsonb.proofs.RefinesLemmas.{AllZip-append}
use Rattle.jsonb.proofs.UpdateLemmas.{flat_first}

-- the innermost frame
pub frames_reversed : (fs : List Frame) (f : Frame) → reverse (fs ++ f ∷ []) ≡ f ∷ reverse fs
frames_reversed fs f = reverse-append fs (f ∷ [])

-- ---- the items of lists are somewhere

list_located : (bytes : List ℕ) (x : Outcome NodeList) (o : Outcome (List Tree)) → IsList bytes x o → (vs : List Tree) × AllZip (Locates bytes) (flat (x ∷ [])) vs
list_located bytes (Err e) o h = ([], tt)
list_located bytes (Ok items) (Ok us) h = (h.ok.0, subst (λ l. AllZip (Locates bytes) l h.ok.0) (sym (append-nil (node_spots items))) h.ok.1)
list_located bytes (Ok items) (Err e) h = absurd h.ok

lists_located : (bytes : List ℕ) (g : Tree → Outcome (List Tree)) (xs : List (Outcome NodeList)) (ts : List Tree)
    → AllZip (λ said t. IsList bytes said (g t)) xs ts → (vs : List Tree) × AllZip (Locates bytes) (flat xs) vs
lists_located bytes g [] [] a = ([], tt)
lists_located bytes g [] (t ∷ ts) a = absurd a
lists_located bytes g (x ∷ xs) [] a = absurd a
lists_located bytes g (x ∷ xs) (t ∷ ts) a =
    let first = list_located bytes x (g t) a.0 in
    let others = lists_located bytes g xs ts a.1 in (
      first.0 ++ others.0,
      subst (λ l. AllZip (Locates bytes) l (first.0 ++ others.0)) (sym (flat_first x xs))
          (AllZip-append (Locates bytes) (flat (x ∷ [])) (flat xs) first.0 others.0 first.1 others.1),
    )

pub located : (bytes : List ℕ) (g : Tree → Outcome (List Tree)) (c : Column (Outcome NodeList)) (ts : List Tree) → AreLists bytes g ts c
    → (vs : List Tree) × AllZip (Locates bytes) (flat (results c)) vs
located bytes g (column.Same x) [] a = absurd a
located bytes g (column.Same x) (t ∷ ts) a = list_located bytes x (g t) a.0
located bytes g (column.Each v) ts a = lists_located bytes g v.items ts a

-- ---- one step of those that are left

pub step_next : (mode : Mode) (steps : List Path) (i : ℕ) (x : Path) (top : Tree) (o : Outcome (List Tree)) → i < length steps → x ≡ get_or steps i x
    → and_then o (steps_meaning mode (path_steps (drop i steps)) top)
    ≡ and_then (and_then o (try_flat_map (step_meaning mode (step_view x) top))) (steps_meaning mode (path_steps (drop (i + 1) steps)) top)
step_next mode steps i x top (Err e) short is = refl
step_next mode steps i x top (Ok us) short is =
    ap (λ l. steps_meaning mode (path_steps l) top us)
    (drop-cons steps i x short ∙ ap (λ y. y ∷ drop (suc i) steps) (sym is) ∙ ap (λ n. x ∷ drop n steps) (sym (add-one i)))

step_same : (steps : List Path) (i : ℕ) (x : Path) → i < length steps → x ≡ get_or steps i x → drop i steps ≡ x ∷ drop (i + 1) steps
step_same steps i x short is = drop-cons steps i x short ∙ ap (λ y. y ∷ drop (suc i) steps) (sym is) ∙ ap (λ n. x ∷ drop n steps) (sym (add-one i))

pub step_filter : (c : Context) (steps : List Path) (i : ℕ) (x : Path) (e : Expression) (top : Tree) (o : Outcome (List Tree)) → i < length steps
    → x ≡ get_or steps i x → step_view x ≡ filter e
    → and_then o (steps_meaning c.mode (path_steps (drop i steps)) top) ≡ filtered_after c top e (drop (i + 1) steps) o
step_filter c steps i x e top (Err d) short is f = refl
step_filter c steps i x e top (Ok us) short is f =
    step_next c.mode steps i x top (Ok us) short is
    ∙ ap (λ s. and_then (try_flat_map (step_meaning c.mode s top) us) (steps_meaning c.mode (path_steps (drop (i + 1) steps)) top)) f

pub step_weighs : (steps : List Path) (i : ℕ) (x : Path) → i < length steps → x ≡ get_or steps i x
    → steps_weight (path_steps (drop i steps)) ≡ step_weight (step_view x) + steps_weight (path_steps (drop (i + 1) steps))
step_weighs steps i x short is = ap (λ l. steps_weight (path_steps l)) (step_same steps i x short is)

pub steps_end : (mode : Mode) (steps : List Path) (i : ℕ) (top : Tree) (o : Outcome (List Tree)) → length steps ≤ i
    → and_then o (steps_meaning mode (path_steps (drop i steps)) top) ≡ o
steps_end mode steps i top (Err e) end = refl
steps_end mode steps i top (Ok us) end = ap (λ l. steps_meaning mode (path_steps l) top us) (drop_of_length-le steps end)

-- the same lists of another function
pub lists_as : (bytes : List ℕ) (f g : Tree → Outcome (List Tree)) → ((t : Tree) → f t ≡ g t) → (c : Column (Outcome NodeList)) (ts : List Tree)
    → AreLists bytes f ts c → AreLists bytes g ts c
lists_as bytes f g is c ts a = each_as (λ said t. IsList bytes said (f t)) (λ said t. IsList bytes said (g t)) (λ x t h. subst (IsList bytes x) (is t) h) c ts a

-- what a filter selects, and then the steps after it
pub filter_then : (c : Context) (top : Tree) (e : Expression) (steps : List Path) (o : Outcome (List Tree)) → filtered_after c top e steps o
    ≡ and_then (and_then o (try_flat_map (step_meaning c.mode (filter e) top))) (steps_meaning c.mode (path_steps steps) top)
filter_then c top e steps (Ok us) = refl
filter_then c top e steps (Err d) = refl

pub waits_as : (c : Context) (top : Tree) (ts : List Tree) (f g : Tree → Outcome (List Tree)) (waits : Waits) (k : Tree → Outcome Truth) → ((t : Tree) → f t ≡ g t)
    → WaitsFor c top ts f waits k → WaitsFor c top ts g waits k
waits_as c top ts f g waits k is h = subst (λ (l : Tree → Outcome (List Tree)). WaitsFor c top ts l waits k) (λ i t. is t i) h

pub if_some_as : {A : Type 0} {P Q : A → Type 0} (r : Option A) → ((x : A) → P x → Q x) → IfSome r P → IfSome r Q
if_some_as (Some x) f h = f x h
if_some_as None f h = tt

pub some_items : {A : Type 0} (R : A → Tree → Type 0) (xs : List A) (ts : List Tree) → AllZip R xs ts → (length xs == 0) ≡ false → HasSome ts
some_items R [] ts a h = absurd (grind (arith, h))
some_items R (x ∷ xs) [] a h = absurd a
some_items R (x ∷ xs) (t ∷ ts) a h = tt

pub all_last : {A : Type 0} (P : A → Type 0) (xs : List A) (x : A) → AllByRecursion P (xs ++ x ∷ []) → AllByRecursion P xs × P x
all_last P [] x a = (tt, a.0)
all_last P (y ∷ ys) x a = let k = all_last P ys x a.1 in ((a.0, k.0), k.1)
