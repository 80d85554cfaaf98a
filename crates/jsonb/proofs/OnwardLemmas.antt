-- What the evaluation of an expression leads to.
use Rattle.jsonb.proofs.Common.{◌≡◌, ◌⊎◌, inl, inr, ℕ, ◌+◌, ◌<◌, List, [], ◌∷◌, length, get_or, drop, map, flat_map, not, ◌==◌, true, Some, Ok, Err, IsOkAnd, refl, sym, ap, subst, arith, is_some, AllZip, Outcome, and_then, try_flat_map, Refines, IsOutOfMemory, Error, Locates, Tree, Spot, Truth, Value, compare, truth, step_meaning, steps_meaning, start, first_item, values_of_item, Expression, Step, binary, steps_of, step_view, steps_view, taken_step, is_relative, Path, AreAlike, HasSame, AlikeOutcomes, SameOutcomes, Mode, Expressions, Repeats, AreDropped, NodeList, node_spots, IsAt, HasTree, Context, IsList, IsTruth, AreValues, AreTruths, values_view, OperandValues, BinaryOp, AreFrom, column_at, Column, filtered, ◌^◌, both_truths, compared_values, exists_of, values_found, path_steps, Aim, TruthsLead, false, Option, SameOption, current, value_view, IfErr, IfSome, None, IsSelectionError, AreEach, AreMade, HasSome, Evaluation, IsForItems, starts_of}
use Rattle.jsonb.specs.declared.selector.column.Column.TheVariants as column
use Rattle.jsonb.specs.declared.selector.expressions.Frame.{Frame}
use Rattle.jsonb.specs.Private.Pairs.{joining_op}
use Rattle.jsonb.specs.declared.selector.pair.Join.{Join}
use Rattle.jsonb.specs.declared.selector.pair.Join.TheVariants.{And, Or}
use Rattle.jsonb.proofs.AlikeLemmas.{alike_then, alike_flat_map, alike_results}
use Rattle.jsonb.proofs.RefinesLemmas.{continued, some_related}
use Rattle.jsonb.proofs.RepeatLemmas.{with_repeats, same_values, same_equal, same_steps, same_outcomes_then, alike_some, alike_compare}
use Rattle.jsonb.proofs.ColumnLemmas.{from_next, each_as, each_made, same_each}
use Rattle.jsonb.proofs.KeptLemmas.{known}
use Rattle.jsonb.specs.declared.selector.node_list.NodeList.TheVariants as node_list
use Rattle.jsonb.specs.declared.selector.operand_value.OperandValues.TheVariants as operand_list
use Rattle.jsonb.specs.declared.selector.operand_value.OperandValue.{OperandValue}
use Rattle.jsonb.proofs.Progress.{Progress, First, no_spot, list_first}
use Rattle.jsonb.proofs.StepLemmas.{steps_at}

-- ---- one step after the other, from one item

same_error : (repeats : Repeats) (p q : Outcome (List Tree)) (e : Error) → p ≡ Err e → SameOutcomes repeats p q → q ≡ Err e
same_error repeats p q e is same = grind arith

-- the steps from the i-th one on make of these items what all make of the first, except for repeats if these are dropped
pub record Listed (context : Context) (top : Tree) (all : Expressions) (repeats : Repeats) (steps : List Path) (i : ℕ) (spots : List Spot) (whole : Outcome (List Tree)) : Type 0 where
  pub now : List Tree
  pub at : AllZip (IsAt context.document) spots now
  pub same : SameOutcomes repeats (steps_meaning context.mode (steps_of (map (taken_step all) (steps_view (drop i steps)))) top now) whole

module _ (context : Context) (top : Tree) (all : Expressions) (repeats : Repeats) (steps : List Path) (i : ℕ) (spots : List Spot) (whole : Outcome (List Tree))
    (l : Listed context top all repeats steps i spots whole) (x : Path) (short : i < length steps) (is : x ≡ get_or steps i x) where
  next : SameOutcomes repeats (and_then (try_flat_map (step_meaning context.mode (taken_step all (step_view x)) top) l.now)
      (steps_meaning context.mode (steps_of (map (taken_step all) (steps_view (drop (i + 1) steps)))) top)) whole
  next = rw (steps_at context.mode all steps i x top l.now short is) at l.same

  -- what the next step selects
  pub listed_more : (s : Step) (found : List Spot) → taken_step all (step_view x) ≡ s
      → IsOkAnd (try_flat_map (step_meaning context.mode s top) l.now) (HasSame repeats context.document.bytes.now found)
      → Listed context top all repeats steps (i + 1) found whole
  listed_more s found taken h =
      let rest = steps_of (map (taken_step all) (steps_view (drop (i + 1) steps))) in
      let k = continued (HasSame repeats context.document.bytes.now found) (try_flat_map (step_meaning context.mode s top) l.now)
      (steps_meaning context.mode rest top) h in
      record {
        now = k.1.0;
        at = k.1.1;
        same = same_outcomes_then repeats (steps_meaning context.mode rest top k.1.0) (steps_meaning context.mode rest top k.0) whole
            (same_steps repeats context.mode rest top k.1.0 k.0 k.1.2) (rw k.2 at (rw taken at next));
      }

  -- its error
  pub listed_failed : (s : Step) (e : Error) → taken_step all (step_view x) ≡ s
      → IsOutOfMemory e ⊎ (try_flat_map (step_meaning context.mode s top) l.now ≡ Err e) → IsOutOfMemory e ⊎ (whole ≡ Err e)
  listed_failed s e taken failed =
      let rest = steps_of (map (taken_step all) (steps_view (drop (i + 1) steps))) in
      elim failed [
        | inl memory ↦ inl memory
        | inr bad ↦ inr (same_error repeats _ whole e (ap (λ o. and_then o (steps_meaning context.mode rest top)) bad) (rw taken at next))
      ]

-- ---- a step of a list within an expression

alike_outcome : (bytes : List ℕ) (r : Outcome NodeList) (p q : Outcome (List Tree)) → IsList bytes r p → AlikeOutcomes p q → IsList bytes r q
alike_outcome bytes r p q h same = grind (arith, alike_then)

pub list_then : (bytes : List ℕ) (f : Tree → Outcome (List Tree)) (spots : List Spot) (o : Outcome (List Tree)) (r : Outcome NodeList)
    → IsOkAnd o (HasSame AreDropped bytes spots) → ((vs : List Tree) → AllZip (Locates bytes) spots vs → IsList bytes r (try_flat_map f vs))
    → IsList bytes r (and_then o (try_flat_map f))
list_then bytes f spots (Ok us) r has go =
    alike_outcome bytes r (try_flat_map f has.0) (try_flat_map f us) (go has.0 has.1) (alike_results f has.2)
list_then bytes f spots (Err e) r has go = absurd has

-- a list without repeats
pub list_with_repeats : (bytes : List ℕ) (r : Outcome NodeList) (o : Outcome (List Tree))
    → Refines (λ found us. AllZip (Locates bytes) (node_spots found) us) IsOutOfMemory r o → IsList bytes r o
list_with_repeats bytes (Ok found) o h = record { ok = with_repeats AreDropped bytes (node_spots found) o h.ok; err = tt }
list_with_repeats bytes (Err e) o h = record { ok = tt; err = h.err }

-- one item
pub one_list : (bytes : List ℕ) (spot : Spot) (t u : Tree) → Locates bytes spot t → u ≡ t → IsList bytes (Ok (node_list.One spot)) (Ok (u ∷ []))
one_list bytes spot t u at is = record { ok = (t ∷ [], (at, tt), same_equal AreDropped (ap (λ x. x ∷ []) (sym is))); err = tt }

-- ---- where a path begins

pub starts_at_item : (ss : List Step) (top t : Tree) → is_relative ss ≡ true → start (steps_of ss) top t ≡ t
starts_at_item (current ∷ rest) top t h = refl
starts_at_item [] top t h = absurd (grind (arith, h))
starts_at_item (_ ∷ rest) top t h = absurd (grind (arith, h))

pub starts_at_root : (ss : List Step) (top t : Tree) → is_relative ss ≡ false → start (steps_of ss) top t ≡ top
starts_at_root (current ∷ rest) top t h = absurd (grind (arith, h))
starts_at_root [] top t h = refl
starts_at_root (_ ∷ rest) top t h = refl

-- what is made of the items that steps begin at
pub each_started : {A : Type 0} {P : Spot → A → Type 0} {S : A → Tree → Type 0} (e : Evaluation) (ss : List Step) (top : Tree) (ts : List Tree) (c : Column A)
    → ((x : Spot) (y : A) (t : Tree) → P x y → IsAt e.context.document x t → S y t) → HasTree e.context.document top → IsForItems e ts → HasSome ts
    → AreMade P (starts_of e ss) c → AreEach (λ y t. S y (start (steps_of ss) top t)) c ts
each_started e (current ∷ ss) top ts c f has at some m = each_made f (node_spots e.items) c ts at m
each_started {S = S} e [] top ts (column.Same y) f has at some m = same_each (λ y t. S y top) y ts some (λ t. f e.context.document.root y top m has)
each_started {S = S} e (_ ∷ ss) top ts (column.Same y) f has at some m = same_each (λ y t. S y top) y ts some (λ t. f e.context.document.root y top m has)
each_started e _ top ts (column.Each v) f has at some m = absurd m

-- ---- what a list is for what waits for it

-- the first item that a search found
same_some : (R : Spot → Tree → Type 0) (a : Option Spot) (b : Option Tree) → SameOption R a b → is_some a ≡ is_some b
same_some R a b h = grind arith

pub found_exists : (R : Spot → Tree → Type 0) (found : Option Spot) (o : Outcome (List Tree)) → IsOkAnd o (λ us. SameOption R found (first_item us))
    → IsTruth (Ok (Some (is_some found))) (exists_of o)
found_exists R found (Ok us) h = record { ok = ap Some (same_some R found (first_item us) h); err = tt }
found_exists R found (Err e) h = absurd h

-- whether the steps select an item from that one
abbrev pub IsFoundFor : Context → List Path → Spot → Outcome Truth → Type 0
IsFoundFor context steps spot said = ((top t : Tree) → HasTree context.document top → IsAt context.document spot t
    → IsTruth said (exists_of (steps_meaning context.mode (path_steps steps) top (t ∷ [])))) × IfErr said (IsSelectionError context.mode)

pub found_for : (context : Context) (steps : List Path) (spot : Spot) (found : Option (Outcome Truth))
    → ((top t : Tree) → HasTree context.document top → IsAt context.document spot t
    → IfSome found (λ said. IsTruth said (exists_of (steps_meaning context.mode (path_steps steps) top (t ∷ [])))))
    → IfSome found (λ said. IfErr said (IsSelectionError context.mode)) → IfSome found (IsFoundFor context steps spot)
found_for context steps spot None meant sound = tt
found_for context steps spot (Some said) meant sound = (meant, sound)

-- the value of a literal
pub literal_values : (value : OperandValue) (v : Value) (o : Outcome (List Value)) → value_view value ∷ [] ≡ v ∷ [] → o ≡ Ok (v ∷ [])
    → AreValues (Ok (operand_list.One value)) o
literal_values value v o is known_as = known known_as (same_equal AreDropped is)

-- the same results of another function
pub truths_as : (f g : Tree → Outcome Truth) → ((t : Tree) → g t ≡ f t) → (c : Column (Outcome Truth)) (ts : List Tree) → AreTruths f ts c → AreTruths g ts c
truths_as f g is c ts a = each_as (λ said t. IsTruth said (f t)) (λ said t. IsTruth said (g t)) (λ x t h. subst (IsTruth x) (sym (is t)) h) c ts a

pub leads_as : (aim : Aim) (c : Context) (top : Tree) (ts : List Tree) (f g : Tree → Outcome Truth) (frames : List Frame) → ((t : Tree) → f t ≡ g t)
    → TruthsLead aim c top ts f frames → TruthsLead aim c top ts g frames
leads_as aim c top ts f g frames is leads = subst (λ (h : Tree → Outcome Truth). TruthsLead aim c top ts h frames) (λ i t. is t i) leads

pub list_exists : (bytes : List ℕ) (spots : List Spot) (o : Outcome (List Tree)) → IsOkAnd o (HasSame AreDropped bytes spots)
    → exists_of o ≡ Ok (Some (not (length spots == 0)))
list_exists bytes spots o h = grind (arith, some_related, alike_some)

pub values_then : (bytes : List ℕ) (spots : List Spot) (o : Outcome (List Tree)) (r : Outcome OperandValues) → IsOkAnd o (HasSame AreDropped bytes spots)
    → ((us : List Tree) → AllZip (Locates bytes) spots us → Refines (λ values vs. values_view values ≡ vs) IsOutOfMemory r (Ok (flat_map values_of_item us)))
    → AreValues r (values_found o)
values_then bytes spots (Ok us) r h go = same_values AreDropped values_view values_of_item h.0 us h.2 (go h.0 h.1)
values_then bytes spots (Err e) r h go = absurd h

-- how a list compares with values
pub list_truth : (op : BinaryOp) (bytes : List ℕ) (spots : List Spot) (rs : List Value) (l : Outcome (List Tree)) (r : Outcome (List Value)) (q : Outcome Truth)
    → IsOkAnd l (HasSame AreDropped bytes spots) → IsOkAnd r (AreAlike rs)
    → ((us : List Tree) → AllZip (Locates bytes) spots us → IsTruth q (Ok (compare op (flat_map values_of_item us) rs)))
    → IsTruth q (compared_values op (values_found l) r)
list_truth op bytes spots rs (Ok us) (Ok ss) q h k go = subst (λ b. IsTruth q (Ok b)) (alike_compare op (alike_flat_map values_of_item h.2) k) (go h.0 h.1)
list_truth op bytes spots rs (Ok us) (Err e) q h k go = absurd k
list_truth op bytes spots rs (Err e) r q h k go = absurd h

-- ---- joined expressions

pub pair_truth : (join : Join) (mode : Mode) (l r : Expression) (top : Tree) → truth mode (binary (joining_op join) l r) top
    ≡ (λ t. both_truths join (truth mode l top t) (truth mode r top t))
pair_truth And mode l r top = refl
pair_truth Or mode l r top = refl

-- ---- the items of a list that a filter selects, by the results from an index on

-- a result of a list of items, for the filter
abbrev pub Said : (Tree → Outcome Truth) → Outcome Truth → Tree → Type 0
Said f said t = IsTruth said (f t)

module _ (bytes : List ℕ) (f : Tree → Outcome Truth) (spots : List Spot) (truths : Column (Outcome Truth)) where
  -- the items after the first i, with their results from an index on
  abbrev pub LeftFrom : ℕ → ℕ → List Tree → Type 0
  LeftFrom i index rest = AllZip (Locates bytes) (drop i spots) rest × AreFrom (Said f) truths index rest

  -- that many items are passed, and these are kept
  abbrev pub KeptUntil : ℕ → ℕ → List Spot → List Tree → Type 0
  KeptUntil i index found ts = Progress (LeftFrom i index) (AllZip (Locates bytes) found) (λ t. and_then (f t) (λ b. Ok (filtered t b)))
      (try_flat_map (λ t. and_then (f t) (λ b. Ok (filtered t b))) ts)

  module _ (i index next : ℕ) (short : i < length spots) (follows : index + 1 < 2 ^ 64 → next ≡ index + 1) where
    pub kept_first : (rest : List Tree) → LeftFrom i index rest → First (LeftFrom (i + 1) next)
        (λ t. Locates bytes (get_or spots i no_spot) t × ((said : Outcome Truth) × (column_at truths index ≡ Some said) × Said f said t)) rest
    kept_first rest left =
        let k = list_first (Locates bytes) spots i no_spot short rest left.0 in
        let from = subst (λ l. AreFrom (Said f) truths index l) k.whole left.1 in
        record {
          first = k.first;
          others = k.others;
          whole = k.whole;
          holds = (k.holds, (from.0, from.1, from.2));
          left = (k.left, from_next (Said f) truths index next k.others follows from.3);
        }
