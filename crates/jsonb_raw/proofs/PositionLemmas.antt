-- The positions of children that steps, indices and keys select, and what is left when a child is taken out.
use Rattle.jsonb_raw.proofs.Common.{◌≡◌, ℕ, suc, ◌+◌, Bool, false, cond, List, ◌∷◌, Option, Some, None, refl, ◌∙◌, arith, slice_get, sym, ℤ, Result, IsOkAnd, MatchResult, is_some, position, option_and_then, option_map, map, nat_tests, Tree, object, Pairs, no_pairs, pair, elements, keys, values, value_under, field_of, array, Trees, children_of, trees_in, text, Key, index, quoted_name, unquoted_name, asked_key, child_position, tree_at_steps, child_met, SameOption, IsOutOfMemory, KeyPath, key_view, keys_view, signed_decimal, Form, Index, Error, Locates, HasSpotsLeft, Spot, SpotIter, keys_of-members, ContainerEntries, HoldTrees, AreEntriesOf, zero, true, [], ◌++◌, length, ap, subst, is_eq, is_eq-slice_cmp, no_trees, tree, members, trees_of, pairs_of, IsBelowFirst, AreKeys, IsInRange, AreInRange, ValuesAreInRange, bytes_eq-true, children, location, change_at, change_child, remove_at, trees_of-elements, pairs_of-members, not, filter, drop, ap₂, find, none-some, keys_of, values_of, str_eq_ignore_ascii_case, AreRising, keys_rise, AreRising-filter, bytes_eq-same, to_ascii_lowercase, ◌≢◌, Ok, Err, IsNoneOf, IsFoundAt, option_or, named_child, position_in_some_case}
use Rattle.jsonb_raw.proofs.AnswerLemmas.{answered}
use Rattle.std.specs.Str.{bytes_eq}
use Rattle.jsonb_doc.specs.declared.layout.HeaderKind.TheVariants as header_kind
use Rattle.std.proofs.lemmas.Cmp.{nat_list_cmp_total}
use Rattle.std.proofs.Common.{remove}
use Rattle.jsonb_raw.proofs.ChildLemmas.{split_at}
use Rattle.jsonb_raw.proofs.RunLemmas.{values_of-members}

-- ---- the child that a step selects

-- the first position at which a test holds, in a list with one more at the front
pub position-cons : {A : Type 0} (p : A → Bool) (x : A) (xs : List A) (b : Bool) → p x ≡ b
    → position p (x ∷ xs) ≡ cond b (Some 0) (option_map suc (position p xs))
position-cons p x xs b h = grind (arith, nat_tests)

-- the value at the position of a key is the value under it
pub value_at_key : (name : List ℕ) (ps : Pairs)
    → option_and_then (λ n. slice_get (elements (values ps)) n) (position (λ key. bytes_eq key name) (keys ps)) ≡ value_under name ps
value_at_key name no_pairs = refl
value_at_key name (pair key value ps) = by (value_at_key name ps) (bytes_eq key name) refl
  where
    past : (o : Option ℕ)
        → option_and_then (λ n. slice_get (value ∷ elements (values ps)) n) (option_map suc o) ≡ option_and_then (λ n. slice_get (elements (values ps)) n) o
    past o = grind arith

    by : option_and_then (λ n. slice_get (elements (values ps)) n) (position (λ key. bytes_eq key name) (keys ps)) ≡ value_under name ps
        → (b : Bool) → bytes_eq key name ≡ b
        → option_and_then (λ n. slice_get (value ∷ elements (values ps)) n) (position (λ key. bytes_eq key name) (key ∷ keys ps))
        ≡ value_under name (pair key value ps)
    by h b k = grind (arith, position-cons, past)

-- a step selects the value of its key in an object
pub field_met : (step : Key) (ps : Pairs) → child_met step (object ps) ≡ value_under (asked_key step) ps
field_met (index i) ps = value_at_key _ ps
field_met (quoted_name name) ps = value_at_key name ps
field_met (unquoted_name name) ps = value_at_key name ps

pub plain_met : (name : List ℕ) (t : Tree) → child_met (unquoted_name name) t ≡ field_of name t
plain_met name (object ps) = value_at_key name ps
plain_met name _ = refl

pub quoted_met : (name : List ℕ) (t : Tree) → child_met (quoted_name name) t ≡ field_of name t
quoted_met name (object ps) = value_at_key name ps
quoted_met name _ = refl

-- the steps select what the others select in the child that the first selects
pub step_by_step : (step : Key) (steps : List Key) (t : Tree)
    → tree_at_steps (step ∷ steps) t ≡ option_and_then (tree_at_steps steps) (child_met step t)
step_by_step step steps t = grind arith

-- ---- one step of a walk along a key path

pub next_child : (step : KeyPath) (steps now : List KeyPath) (here : Tree) (wanted : Option Tree) → now ≡ step ∷ steps
    → tree_at_steps (keys_view now) here ≡ wanted
    → option_and_then (tree_at_steps (keys_view steps)) (child_met (key_view step) here) ≡ wanted
next_child step steps now here wanted s e = sym (step_by_step (key_view step) (keys_view steps) here) ∙ rw s at e

pub none_same : {A : Type 0} (R : A → Tree → Type 0) (found : Option A) (wanted : Option Tree) → found ≡ None → SameOption R found wanted → wanted ≡ None
none_same R found wanted h e = grind arith

pub some_same : {A : Type 0} (R : A → Tree → Type 0) (a : A) (found : Option A) (wanted : Option Tree) → found ≡ Some a → SameOption R found wanted
    → (t : Tree) × R a t × (Some t ≡ wanted)
some_same R a found wanted h e = grind arith

pub none_met : {A : Type 0} (R : A → Tree → Type 0) (next : Tree → Option Tree) (found : Option A) (child wanted : Option Tree)
    → found ≡ None → SameOption R found child → option_and_then next child ≡ wanted → wanted ≡ None
none_met R next found child wanted h e k = grind arith

pub some_met : {A : Type 0} (R : A → Tree → Type 0) (next : Tree → Option Tree) (a : A) (found : Option A) (child wanted : Option Tree)
    → found ≡ Some a → SameOption R found child → option_and_then next child ≡ wanted → (t : Tree) × R a t × (next t ≡ wanted)
some_met R next a found child wanted h e k = grind arith

-- ---- containers of a kind

-- Holds if the entries are those of these elements.
pub record OfArray (form : Form) (t : Tree) (e : ContainerEntries) : Type 0 where
  pub trees : Trees
  pub is : t ≡ array trees
  pub hold : HoldTrees form e.values (elements trees)

-- Holds if the entries are those of these members.
pub record OfObject (form : Form) (t : Tree) (e : ContainerEntries) : Type 0 where
  pub pairs : Pairs
  pub is : t ≡ object pairs
  pub are_keys : AreKeys (keys pairs)
  pub hold : HoldTrees form e.keys (map text (keys pairs))

pub of_array : (form : Form) (t : Tree) (e : ContainerEntries) → e.kind ≡ header_kind.Array → AreEntriesOf form t e → OfArray form t e
of_array form (array ts) e is h = record { trees = ts; is = refl; hold = h.2 }
of_array form (object ps) e is h = let bad : header_kind.Array ≡ header_kind.Object = sym is ∙ h.0 in absurd (cc)
of_array form _ e is h = absurd h

pub of_object : (form : Form) (t : Tree) (e : ContainerEntries) → e.kind ≡ header_kind.Object → AreEntriesOf form t e → OfObject form t e
of_object form (array ts) e is h = let bad : header_kind.Object ≡ header_kind.Array = sym is ∙ h.0 in absurd (cc)
of_object form (object ps) e is h = record { pairs = ps; is = refl; are_keys = h.1; hold = rw (keys_of-members ps) at h.2.names }
of_object form _ e is h = absurd h

-- ---- keys

-- a step asks each object for a key
pub position_in_object : (step : Key) (ps : Pairs) → child_position step (object ps) ≡ position (λ key. bytes_eq key (asked_key step)) (keys ps)
position_in_object step ps = grind arith

pub met_in_object : (form : Form) (t : Tree) (e : ContainerEntries) (step : KeyPath) (name : List ℕ) (r : Result (Option ℕ) Error)
    → name ≡ asked_key (key_view step) → OfObject form t e
    → ((ks : List (List ℕ)) → HoldTrees form e.keys (map text ks) → AreKeys ks → IsOkAnd r (λ found. found ≡ position (λ key. bytes_eq key name) ks))
    → MatchResult r (λ found. found ≡ child_position (key_view step) t) IsOutOfMemory
met_in_object form t e step name r asked o h =
    rw (o.is, position_in_object (key_view step) o.pairs, ← asked)
    (answered (λ found. found ≡ position (λ key. bytes_eq key name) (keys o.pairs)) r (h (keys o.pairs) o.hold o.are_keys))

pub met_by_index : (form : Form) (t : Tree) (e : ContainerEntries) (step : KeyPath) (j i : ℤ) (r : Result (Option ℕ) Error) → j ≡ i → step ≡ Index i
    → OfObject form t e
    → ((ks : List (List ℕ)) → HoldTrees form e.keys (map text ks) → AreKeys ks
    → MatchResult r (λ found. found ≡ position (λ key. bytes_eq key (signed_decimal j)) ks) IsOutOfMemory)
    → MatchResult r (λ found. found ≡ child_position (key_view step) t) IsOutOfMemory
met_by_index form t e step j i r same step_is o h = rw (step_is, o.is) (rw same at (h (keys o.pairs) o.hold o.are_keys))

-- ---- what an index selects in a tree, by the spots that it has

-- an iterator over elements is that of an array
pub array_spots : (bytes : List ℕ) (it : SpotIter) (t : Tree) → SameOption (λ it ts. HasSpotsLeft bytes it (elements ts)) (Some it) (trees_in t)
    → (ts : Trees) × (t ≡ array ts) × HasSpotsLeft bytes it (elements ts)
array_spots bytes it t h = grind arith

pub no_field : (name : List ℕ) (t : Tree) → is_some (children_of t) ≡ false → field_of name t ≡ None
no_field name t h = grind arith

pub met_by_key : (bytes : List ℕ) (i j : ℤ) (t : Tree) (r : Result (Option Spot) Error) → j ≡ i
    → SameOption (λ (it : SpotIter) ts. HasSpotsLeft bytes it (elements ts)) None (trees_in t)
    → MatchResult r (λ found. SameOption (Locates bytes) found (field_of (signed_decimal j) t)) IsOutOfMemory
    → MatchResult r (λ found. SameOption (Locates bytes) found (child_met (index i) t)) IsOutOfMemory
met_by_key bytes i j (array ts) r same none h = absurd none
met_by_key bytes i j (object ps) r same none h = rw (field_met (index i) ps) (rw same at h)
met_by_key bytes i j _ r same none h = h

-- the same index, as it is passed
pub passed : (bytes : List ℕ) (j i : ℤ) (t : Tree) (r : Result (Option Spot) Error) → j ≡ i
    → MatchResult r (λ found. SameOption (Locates bytes) found (child_met (index j) t)) IsOutOfMemory
    → MatchResult r (λ found. SameOption (Locates bytes) found (child_met (index i) t)) IsOutOfMemory
passed bytes j i t r same h = rw (← same) h

-- the trees with what is made of the one at a position
abbrev changed_trees : ℕ → (Tree → Option Tree) → Trees → Trees
changed_trees n change ts = trees_of (change_at n change (elements ts))

-- the pairs with what is made of the value of the one at a position
abbrev changed_pairs : ℕ → (Tree → Option Tree) → Pairs → Pairs
changed_pairs n change ps = pairs_of (change_at n (λ p. option_map (λ t. (p.0, t)) (change p.1)) (members ps))

-- ---- keys

-- a string below the first of sorted keys is none of them
pub below_all : (name : List ℕ) (ks : List (List ℕ)) → IsBelowFirst name ks → AreKeys ks → position (λ k. bytes_eq k name) ks ≡ None
below_all name [] below rising = refl
below_all name (key ∷ ks) below rising =
    (rw (position-cons (λ k. bytes_eq k name) key ks false other, (below_all name ks (lower ks rising.1) rising.2)) refl)
  where
    other : bytes_eq key name ≡ false
    other = sym (is_eq-slice_cmp key name) ∙ ap is_eq (nat_list_cmp_total.antisymm key name) ∙ rw below refl

    lower : (ls : List (List ℕ)) → IsBelowFirst key ls → IsBelowFirst name ls
    lower ls h = grind (arith, nat_list_cmp_total)

module _ (name : List ℕ) where
  other_key : (key : List ℕ) → key ≢ name → bytes_eq key name ≡ false
  other_key key other = grind (arith, bytes_eq-true)

  missing_in : (ks : List (List ℕ)) → IsNoneOf name ks → position (λ k. bytes_eq k name) ks ≡ None
  missing_in [] none = refl
  missing_in (key ∷ ks) none =
      position-cons (λ k. bytes_eq k name) key ks false (other_key key none.0) ∙ ap (option_map suc) (missing_in ks none.1)

  found_after : (front back : List (List ℕ)) → IsNoneOf name front → position (λ k. bytes_eq k name) (front ++ name ∷ back) ≡ Some (length front)
  found_after [] back none = position-cons (λ k. bytes_eq k name) name back true (bytes_eq-same name)
  found_after (key ∷ front) back none =
      position-cons (λ k. bytes_eq k name) key (front ++ name ∷ back) false (other_key key none.0) ∙ ap (option_map suc) (found_after front back none.1)

  -- what is found is the position of the first key that is the name
  pub position_is : (ks : List (List ℕ)) (r : Result (Option ℕ) Error) → IsOkAnd r (IsFoundAt name ks)
      → IsOkAnd r (λ found. found ≡ position (λ k. bytes_eq k name) ks)
  position_is ks (Err e) h = absurd h
  position_is ks (Ok None) none = sym (missing_in ks none)
  position_is ks (Ok (Some n)) (front, back, count, joined, none) = rw (count, joined) (sym (found_after front back none))

-- if the pair of a key is taken out, no key is that key
key_gone : (name : List ℕ) (ps : Pairs) (n : ℕ) → AreKeys (keys ps) → position (λ k. bytes_eq k name) (keys ps) ≡ Some n
    → position (λ k. bytes_eq k name) (keys (changed_pairs n (remove_at []) ps)) ≡ None
key_gone name no_pairs n rising at = let bad : None ≡ Some n = at in absurd (cc)
key_gone name (pair key t ps) n rising at = by (λ m e. key_gone name ps m rising.2 e) (bytes_eq key name) refl
  where
    others_gone : Type 0
    others_gone = (m : ℕ) → position (λ k. bytes_eq k name) (keys ps) ≡ Some m
        → position (λ k. bytes_eq k name) (keys (changed_pairs m (remove_at []) ps)) ≡ None

    behind : others_gone → (o : Option ℕ) → position (λ k. bytes_eq k name) (keys ps) ≡ o → bytes_eq key name ≡ false → option_map suc o ≡ Some n
        → position (λ k. bytes_eq k name) (keys (changed_pairs n (remove_at []) (pair key t ps))) ≡ None
    behind rest None is other e = let bad : None ≡ Some n = e in absurd (cc)
    behind rest (Some m) is other e =
        let e' : suc m ≡ n = cc e in
        rw (← e') (rw (position-cons (λ k. bytes_eq k name) key (keys (changed_pairs m (remove_at []) ps)) false other, (rest m is)) refl)

    by : others_gone → (b : Bool) → bytes_eq key name ≡ b → position (λ k. bytes_eq k name) (keys (changed_pairs n (remove_at []) (pair key t ps))) ≡ None
    by rest true same =
        let first : 0 ≡ n = cc (sym (position-cons (λ k. bytes_eq k name) key (keys ps) true same) ∙ at) in
        let is : key ≡ name = bytes_eq-true key name same in
        rw (← first, ← is, pairs_of-members ps) (below_all key (keys ps) rising.1 rising.2)
    by rest false other = behind rest (position (λ k. bytes_eq k name) (keys ps)) refl other
        (sym (position-cons (λ k. bytes_eq k name) key (keys ps) false other) ∙ at)

-- ---- a child that is changed, and not taken out

module _ (change : Tree → Option Tree) (child child' : Tree) (changed : change child ≡ Some child') where
  same_count : (ts : Trees) (n : ℕ) → slice_get (elements ts) n ≡ Some child → length (elements (changed_trees n change ts)) ≡ length (elements ts)
  same_count no_trees n at = refl
  same_count (tree t ts) zero at = let e : t ≡ child = cc at in rw (e, changed, trees_of-elements ts) refl
  same_count (tree t ts) (suc n) at = ap suc (same_count ts n at)

  same_keys : (ps : Pairs) (n : ℕ) → slice_get (elements (values ps)) n ≡ Some child → keys (changed_pairs n change ps) ≡ keys ps
  same_keys no_pairs n at = refl
  same_keys (pair key t ps) zero at = let e : t ≡ child = cc at in rw (e, changed, pairs_of-members ps) refl
  same_keys (pair key t ps) (suc n) at = ap (λ ks. key ∷ ks) (same_keys ps n at)

  element_there : (ts : Trees) (n : ℕ) → slice_get (elements ts) n ≡ Some child → slice_get (elements (changed_trees n change ts)) n ≡ Some child'
  element_there no_trees n at = let bad : None ≡ Some child = at in absurd (cc)
  element_there (tree t ts) zero at = let e : t ≡ child = cc at in rw (e, changed) refl
  element_there (tree t ts) (suc n) at = element_there ts n at

  value_there : (ps : Pairs) (n : ℕ) → slice_get (elements (values ps)) n ≡ Some child
      → slice_get (elements (values (changed_pairs n change ps))) n ≡ Some child'
  value_there no_pairs n at = let bad : None ≡ Some child = at in absurd (cc)
  value_there (pair key t ps) zero at = let e : t ≡ child = cc at in rw (e, changed) refl
  value_there (pair key t ps) (suc n) at = value_there ps n at

  child_there : (t : Tree) (n : ℕ) → slice_get (children t) n ≡ Some child → slice_get (children (change_child n change t)) n ≡ Some child'
  child_there t n h = grind (arith, element_there, value_there)

  -- a step selects the child at the position that it met before
  same_position : (step : Key) (t : Tree) (n : ℕ) → slice_get (children t) n ≡ Some child
      → child_position step (change_child n change t) ≡ child_position step t
  same_position step t n h = grind (arith, same_count, position_in_object, same_keys)

-- ---- ranges

element_in_range : (ts : Trees) (n : ℕ) (child : Tree) → AreInRange ts → slice_get (elements ts) n ≡ Some child → IsInRange child
element_in_range no_trees n child fits at = let bad : None ≡ Some child = at in absurd (cc)
element_in_range (tree t ts) zero child fits at = let e : t ≡ child = cc at in rw (← e) fits.0
element_in_range (tree t ts) (suc n) child fits at = element_in_range ts n child fits.1 at

value_in_range : (ps : Pairs) (n : ℕ) (child : Tree) → ValuesAreInRange ps → slice_get (elements (values ps)) n ≡ Some child → IsInRange child
value_in_range no_pairs n child fits at = let bad : None ≡ Some child = at in absurd (cc)
value_in_range (pair key t ps) zero child fits at = let e : t ≡ child = cc at in rw (← e) fits.0
value_in_range (pair key t ps) (suc n) child fits at = value_in_range ps n child fits.1 at

-- ---- the first step of a place

-- the first step selects a child, and the other steps have a place in it
pub record FirstMet (step : Key) (steps : List Key) (t : Tree) (ns : List ℕ) : Type 0 where
  pub at : ℕ
  pub child : Tree
  pub others : List ℕ
  pub split : ns ≡ at ∷ others
  pub meets : child_position step t ≡ Some at
  pub is : slice_get (children t) at ≡ Some child
  pub placed : location steps child ≡ Some others

pub first_met : (step : Key) (steps : List Key) (t : Tree) (ns : List ℕ) → location (step ∷ steps) t ≡ Some ns → FirstMet step steps t ns
first_met step steps t ns e = grind arith

-- ---- the law

taken_some : (n : ℕ) (ns others : List ℕ) (t : Tree) → ns ≡ n ∷ others → remove_at ns t ≡ Some (change_child n (remove_at others) t)
taken_some n ns others t split = rw split refl

in_object : (last : Key) (t : Tree) (ps : Pairs) (n : ℕ) → t ≡ object ps → child_position last t ≡ Some n
    → position (λ key. bytes_eq key (asked_key last)) (keys ps) ≡ Some n
in_object last t ps n is at = sym (position_in_object last ps) ∙ rw is at at

object_left : (t t' : Tree) (ps : Pairs) (n : ℕ) → t ≡ object ps → change_child n (remove_at []) t ≡ t' → object (changed_pairs n (remove_at []) ps) ≡ t'
object_left t t' ps n is left = rw is at left

goes_on : (step : Key) (steps : List Key) (t child : Tree) (n : ℕ) → child_position step t ≡ Some n → slice_get (children t) n ≡ Some child
    → location steps child ≡ None
    → location (step ∷ steps) t ≡ None
goes_on step steps t child n meets is none = rw (meets, is, none) refl

-- the last step selects no key of the object any more
last_gone : (last : Key) (t : Tree) (ps : Pairs) (ns : List ℕ) → AreKeys (keys ps) → t ≡ object ps → location (last ∷ []) t ≡ Some ns → (t' : Tree)
    → remove_at ns t ≡ Some t' → location (last ∷ []) t' ≡ None
last_gone last t ps ns rising is met t' out =
    let f = first_met last [] t ns met in
    let end : [] ≡ f.others = cc f.placed in
    let left = object_left t t' ps f.at is (cc (rw (f.split, ← end) at out)) in
    let gone = key_gone (asked_key last) ps f.at rising (in_object last t ps f.at is f.meets) in
    let none = position_in_object last (changed_pairs f.at (remove_at []) ps) ∙ gone in
    subst (λ (u : Tree). location (last ∷ []) u ≡ None) left (no_child (object (changed_pairs f.at (remove_at []) ps)) none)
  where
    no_child : (u : Tree) → child_position last u ≡ None → location (last ∷ []) u ≡ None
    no_child u none = rw none refl

-- places of some steps have a position
pub some_positions : (front : List Key) (last : Key) (t : Tree) (ns : List ℕ) → location (front ++ last ∷ []) t ≡ Some ns → (n : ℕ) × (ms : List ℕ) × (ns ≡ n ∷ ms)
some_positions [] last t ns met = let f = first_met last [] t ns met in (f.at, f.others, f.split)
some_positions (step ∷ front) last t ns met = let f = first_met step (front ++ last ∷ []) t ns met in (f.at, f.others, f.split)

pub gone : (front : List Key) (last : Key) (t : Tree) (ps : Pairs) (ns : List ℕ) → IsInRange t → tree_at_steps front t ≡ Some (object ps)
    → location (front ++ last ∷ []) t ≡ Some ns → (t' : Tree) → remove_at ns t ≡ Some t' → location (front ++ last ∷ []) t' ≡ None
gone [] last t ps ns fits parent met t' out = grind (arith, last_gone)
gone (step ∷ front) last t ps ns fits parent met t' out =
    let f = first_met step (front ++ last ∷ []) t ns met in
    let some = some_positions front last f.child f.others f.placed in
    let taken = taken_some some.0 f.others some.1 f.child some.2 in
    let below = rw (f.meets, f.is) at (sym (step_by_step step front t) ∙ parent) in
    let rest = gone front last f.child ps f.others (grind (arith, element_in_range, value_in_range, fits, f.is)) below f.placed _ taken in
    let meets = same_position (remove_at f.others) f.child _ taken step t f.at f.is ∙ f.meets in
    let there = child_there (remove_at f.others) f.child _ taken t f.at f.is in
    let here = goes_on step (front ++ last ∷ []) _ _ f.at meets there rest in
    subst (λ (u : Tree). location (step ∷ (front ++ last ∷ [])) u ≡ None) (grind (arith, rw f.split at out, f.split)) here

abbrev Member : Type 0
Member = List ℕ × Tree

-- ---- pairs without the one of a key

-- the keys of some of the pairs are keys
pub AreKeys-filter : (test : Member → Bool) (ps : List Member) → AreKeys (keys_of ps) → AreKeys (keys_of (filter test ps))
AreKeys-filter test [] are = tt
AreKeys-filter test (p ∷ ps) are =
    go (test p) (AreRising-filter test (p ∷ ps) (keys_rise (keys_of (p ∷ ps)) are)) (AreKeys-filter test ps are.2)
  where
    go : (b : Bool) → AreRising (keys_of (cond b (p ∷ filter test ps) (filter test ps))) → AreKeys (keys_of (filter test ps))
        → AreKeys (keys_of (cond b (p ∷ filter test ps) (filter test ps)))
    go b h e = grind arith

abbrev without_key : List ℕ → List Member → List Member
without_key name ps = filter (λ p. not (bytes_eq p.0 name)) ps

-- if no key is the name, all members stay
pub all_stay : (name : List ℕ) (ps : List Member) → position (λ k. bytes_eq k name) (keys_of ps) ≡ None → without_key name ps ≡ ps
all_stay name [] none = refl
all_stay name (p ∷ ps) none = by (λ others. all_stay name ps others) (bytes_eq p.0 name) refl
  where
    by : (position (λ k. bytes_eq k name) (keys_of ps) ≡ None → without_key name ps ≡ ps) → (b : Bool) → bytes_eq p.0 name ≡ b
        → without_key name (p ∷ ps) ≡ p ∷ ps
    by h b e = grind (arith, none-some, position-cons)

-- if the first key that is the name has this position, only the member there is left out
pub one_goes : (name : List ℕ) (ps : List Member) (n : ℕ) → AreKeys (keys_of ps) → position (λ k. bytes_eq k name) (keys_of ps) ≡ Some n
    → without_key name ps ≡ remove ps n
one_goes name [] n are at = let bad : None ≡ Some n = at in absurd (cc)
one_goes name (p ∷ ps) n are at = by (λ m is. one_goes name ps m are.2 is) (bytes_eq p.0 name) refl
  where
    OneGoes : Type 0
    OneGoes = (m : ℕ) → position (λ k. bytes_eq k name) (keys_of ps) ≡ Some m → without_key name ps ≡ remove ps m

    behind : OneGoes → (o : Option ℕ) → position (λ k. bytes_eq k name) (keys_of ps) ≡ o → option_map suc o ≡ Some n → bytes_eq p.0 name ≡ false
        → p ∷ without_key name ps ≡ remove (p ∷ ps) n
    behind h o e k f = grind arith

    by : OneGoes → (b : Bool) → bytes_eq p.0 name ≡ b → without_key name (p ∷ ps) ≡ remove (p ∷ ps) n
    by goes true same =
        let first : 0 ≡ n = cc (sym (position-cons (λ k. bytes_eq k name) p.0 (keys_of ps) true same) ∙ at) in
        let is : p.0 ≡ name = bytes_eq-true p.0 name same in
        rw (same, ← first) (all_stay name ps (rw (← is) (below_all p.0 (keys_of ps) are.1 are.2)))
    by goes false other =
        rw other (behind goes (position (λ k. bytes_eq k name) (keys_of ps)) refl
        (sym (position-cons (λ k. bytes_eq k name) p.0 (keys_of ps) false other) ∙ at) other)

-- the keys and the values around a pair
pub names_around : (n : ℕ) (ps : List Member) → map text (keys_of (remove ps n)) ≡ remove (map text (keys_of ps)) n
names_around zero [] = refl
names_around zero (p ∷ ps) = refl
names_around (suc n) [] = refl
names_around (suc n) (p ∷ ps) = ap (λ (ts : List Tree). text p.0 ∷ ts) (names_around n ps)

pub values_around : (n : ℕ) (ps : List Member) → values_of (remove ps n) ≡ remove (values_of ps) n
values_around zero [] = refl
values_around zero (p ∷ ps) = refl
values_around (suc n) [] = refl
values_around (suc n) (p ∷ ps) = ap (λ (ts : List Tree). p.1 ∷ ts) (values_around n ps)

-- ---- the position of a name among the keys that are left, in its own case or in some case

-- a position after those that were passed
abbrev pub behind : ℕ → Option ℕ → Option ℕ
behind passed o = option_map (λ n. passed + n) o

-- the position of the first visited key that differs in case only is known
abbrev pub found_behind_both : ℕ → Option ℕ → List ℕ → List (List ℕ) → Option ℕ
found_behind_both passed first name ks =
    option_or (behind passed (position (λ key. bytes_eq key name) ks))
    (option_or first (behind passed (position (λ key. str_eq_ignore_ascii_case key name) ks)))

pub both_other : (passed : ℕ) (first : Option ℕ) (name key : List ℕ) (ks rest : List (List ℕ)) (wanted : Option ℕ) → ks ≡ key ∷ rest
    → bytes_eq key name ≡ false → str_eq_ignore_ascii_case key name ≡ true → found_behind_both passed first name ks ≡ wanted
    → found_behind_both (passed + 1) (option_or first (Some passed)) name rest ≡ wanted
both_other passed first name key ks rest wanted split other same e =
    let exact = position-cons (λ k. bytes_eq k name) key rest false other in
    let in_case = position-cons (λ k. str_eq_ignore_ascii_case k name) key rest true same in
    let zero_more : passed + 0 ≡ passed = omega arith in
    ap₂ option_or (grind arith) (by first _) ∙ rw (split, exact, in_case, zero_more) at e
  where
    by : (o r : Option ℕ) → option_or (option_or o (Some passed)) r ≡ option_or o (Some passed)
    by o r = grind arith

pub both_further : (passed : ℕ) (first : Option ℕ) (name key : List ℕ) (ks rest : List (List ℕ)) (wanted : Option ℕ) → ks ≡ key ∷ rest
    → str_eq_ignore_ascii_case key name ≡ false → found_behind_both passed first name ks ≡ wanted
    → found_behind_both (passed + 1) first name rest ≡ wanted
both_further passed first name key ks rest wanted split differs e =
    let exact = position-cons (λ k. bytes_eq k name) key rest false (not_exact (bytes_eq key name) refl) in
    let in_case = position-cons (λ k. str_eq_ignore_ascii_case k name) key rest false differs in
    ap₂ (λ a b. option_or a (option_or first b)) (grind arith)
    (grind arith)
    ∙ rw (split, exact, in_case) at e
  where
    not_exact : (b : Bool) → bytes_eq key name ≡ b → b ≡ false
    not_exact false is = refl
    not_exact true is =
        sym (bytes_eq-same (map to_ascii_lowercase name)) ∙ ap (λ k. str_eq_ignore_ascii_case k name) (sym (bytes_eq-true key name is)) ∙ differs

-- ---- the value there

-- a pair that passes is at this position
pub record StandsAt (test : List ℕ → Bool) (ps : List Member) (n : ℕ) : Type 0 where
  pub value : Tree
  pub rest : List Tree
  pub there : drop n (values_of ps) ≡ value ∷ rest
  pub found : option_map (λ p. p.1) (find (λ p. test p.0) ps) ≡ Some value

some_more : (o : Option ℕ) (n : ℕ) → option_map suc o ≡ Some n → (m : ℕ) × (o ≡ Some m) × (suc m ≡ n)
some_more o n h = grind arith

pub stands_at : (test : List ℕ → Bool) (ps : List Member) (n : ℕ) → position test (keys_of ps) ≡ Some n → StandsAt test ps n
stands_at test [] n at = let bad : None ≡ Some n = at in absurd (cc)
stands_at test (p ∷ ps) n at = by (λ m is. stands_at test ps m is) (test p.0) refl
  where
    by : ((m : ℕ) → position test (keys_of ps) ≡ Some m → StandsAt test ps m) → (b : Bool) → test p.0 ≡ b → StandsAt test (p ∷ ps) n
    by others true passes =
        let first : 0 ≡ n = cc (sym (position-cons test p.0 (keys_of ps) true passes) ∙ at) in
        record {
          value = p.1;
          rest = values_of ps;
          there = ap (λ k. drop k (values_of (p ∷ ps))) (sym first);
          found = ap (λ t. option_map (λ q. q.1) (cond t (Some p) (find (λ q. test q.0) ps))) passes;
        }
    by others false fails =
        let (m, is, next) = some_more _ n (sym (position-cons test p.0 (keys_of ps) false fails) ∙ at) in
        let s = others m is in
        record {
          value = s.value;
          rest = s.rest;
          there = ap (λ k. drop k (values_of (p ∷ ps))) (sym next) ∙ s.there;
          found = ap (λ t. option_map (λ q. q.1) (cond t (Some p) (find (λ q. test q.0) ps))) fails ∙ s.found;
        }

pub stands_nowhere : (test : List ℕ → Bool) (ps : List Member) → position test (keys_of ps) ≡ None → find (λ p. test p.0) ps ≡ None
stands_nowhere test [] none = refl
stands_nowhere test (p ∷ ps) none = by (λ is. stands_nowhere test ps is) (test p.0) refl
  where
    by : (position test (keys_of ps) ≡ None → find (λ q. test q.0) ps ≡ None) → (b : Bool) → test p.0 ≡ b → find (λ q. test q.0) (p ∷ ps) ≡ None
    by h b e = grind (arith, none-some, position-cons)

value_found : (name : List ℕ) (ps : Pairs) → value_under name ps ≡ option_map (λ p. p.1) (find (λ p. bytes_eq p.0 name) (members ps))
value_found name no_pairs = refl
value_found name (pair key value ps) = grind (arith, value_found name ps)

-- the value of the pair at the position of the name
pub record IsNamed (name : List ℕ) (ps : Pairs) (n : ℕ) : Type 0 where
  pub value : Tree
  pub rest : List Tree
  pub there : drop n (values_of (members ps)) ≡ value ∷ rest
  pub named : named_child name true (object ps) ≡ Some value

pub named_at : (name : List ℕ) (ps : Pairs) (n : ℕ) → position_in_some_case name (keys_of (members ps)) ≡ Some n → IsNamed name ps n
named_at name ps n at = by (position (λ key. bytes_eq key name) (keys_of (members ps))) refl
  where
    by : (o : Option ℕ) → position (λ key. bytes_eq key name) (keys_of (members ps)) ≡ o → IsNamed name ps n
    by (Some m) is =
        let same : m ≡ n = cc (rw is at at) in
        let s = stands_at (λ key. bytes_eq key name) (members ps) n (rw same at is) in
        record { value = s.value; rest = s.rest; there = s.there; named = rw (value_found name ps ∙ s.found) refl }
    by None is =
        let s = stands_at (λ key. str_eq_ignore_ascii_case key name) (members ps) n (rw is at at) in
        let none = stands_nowhere (λ key. bytes_eq key name) (members ps) is in
        record { value = s.value; rest = s.rest; there = s.there; named = rw (value_found name ps, none) s.found }

-- what is at the position of the name's key is the child of that name
pub named_value : (name : List ℕ) (ps : Pairs) (t : Tree) (n : ℕ) → t ≡ object ps → position_in_some_case name (keys_of (members ps)) ≡ Some n
    → slice_get (values_of (members ps)) n ≡ named_child name true t
named_value name ps t n is at =
    let s = named_at name ps n at in
    (split_at (values_of (members ps)) n s.value s.rest s.there).at ∙ sym s.named ∙ ap (named_child name true) (sym is)

pub named_at_none : (name : List ℕ) (ps : Pairs) → position_in_some_case name (keys_of (members ps)) ≡ None → named_child name true (object ps) ≡ None
named_at_none name ps none = by (position (λ key. bytes_eq key name) (keys_of (members ps))) refl
  where
    by : (o : Option ℕ) → position (λ key. bytes_eq key name) (keys_of (members ps)) ≡ o → named_child name true (object ps) ≡ None
    by (Some m) is = absurd (none-some m (sym (rw is at none)))
    by None is =
        let exact = stands_nowhere (λ key. bytes_eq key name) (members ps) is in
        let in_case = stands_nowhere (λ key. str_eq_ignore_ascii_case key name) (members ps) (rw is at none) in
        rw (value_found name ps, exact, in_case) refl

-- ---- the children at an index and of a name, by their positions

-- the value of the name is the child at the position of its key
pub named_place : (name : List ℕ) (ps : Pairs) (t : Tree) (n : ℕ) → t ≡ object ps → position_in_some_case name (keys_of (members ps)) ≡ Some n
    → slice_get (children t) n ≡ named_child name true t
named_place name ps t n is at = rw is (ap (λ ts. slice_get ts n) (sym (values_of-members ps)) ∙ named_value name ps (object ps) n refl at)

-- without another case a name is a key
pub exact_child : (name : List ℕ) (t : Tree) → named_child name false t ≡ field_of name t
exact_child name t = grind arith
