-- Comparisons of members of the items of a list, in lax mode, in which none fails.
use Rattle.jsonb.proofs.Common.{◌≡◌, List, [], ◌∷◌, ◌++◌, flat_map, map, true, false, Some, None, Ok, Err, IsOkAnd, refl, sym, ap, ◌∙◌, append_assoc, beq, flat_map-append, option_eq, not, Outcome, and_then, try_flat_map, Refines, IsOutOfMemory, Tree, Error, Expression, steps_of, steps_view, Truth, compare, first_decisive, Value, values_of_item, values_step, step_meaning, steps_meaning, truth, operand_values, start, IsMemberCompared, IsListCompared, items_truth, is_comparison, taken_step, MemberCompared, ListCompared, AreRefused, Mode, Lax, arith}
use Rattle.jsonb.specs.PathTree as math
use Rattle.jsonb.proofs.ComparedLemmas.{Any, AreTotal, all_total, compares_member, members_are_total, members_total, comparison_total, told_by}
use Rattle.jsonb.proofs.KeptLemmas.{comparison_is}
use Rattle.jsonb.proofs.MemberLemmas.{none_left, nothing_behind}
use Rattle.jsonb.proofs.StepLemmas.{refused_steps}

-- ---- a list in two parts

-- the lists of two parts, joined
abbrev pub both_lists : {A : Type 0} → Outcome (List A) → Outcome (List A) → Outcome (List A)
both_lists o p = and_then o (λ fs. and_then p (λ bs. Ok (fs ++ bs)))

pub none_in_front : {A : Type 0} (o : Outcome (List A)) → o ≡ both_lists (Ok []) o
none_in_front o = grind arith

pub both_lists-assoc : {A : Type 0} (o p q : Outcome (List A)) → both_lists o (both_lists p q) ≡ both_lists (both_lists o p) q
both_lists-assoc o p q = grind (arith, append_assoc)

joined-append : {A B : Type 0} (f : A → Outcome (List B)) (xs ys : List A) → try_flat_map f (xs ++ ys) ≡ both_lists (try_flat_map f xs) (try_flat_map f ys)
joined-append f [] ys = none_in_front (try_flat_map f ys)
joined-append f (x ∷ xs) ys = grind (arith, (joined-append f xs ys), both_lists-assoc)

-- steps of two lists, if none fails
pub steps_in_parts : (ss : List math.Step) (top : Tree) (xs ys : List Tree) → AreTotal ss
    → steps_meaning Lax (steps_of ss) top (xs ++ ys) ≡ both_lists (steps_meaning Lax (steps_of ss) top xs) (steps_meaning Lax (steps_of ss) top ys)
steps_in_parts [] top xs ys h = refl
steps_in_parts (s ∷ ss) top xs ys h = grind (
  arith,
  steps_in_parts ss top,
  joined-append (step_meaning Lax s top) xs ys,
  all_total (step_meaning Lax s top) (h.0 top) xs,
  all_total (step_meaning Lax s top) (h.0 top) ys,
)

-- ---- the first truth that decides

first_passes : (xs ys : List Truth) → first_decisive xs ≡ Some false → first_decisive (xs ++ ys) ≡ first_decisive ys
first_passes [] ys h = refl
first_passes (Some false ∷ xs) ys h = first_passes xs ys h
first_passes _ ys h = cc

first_stops : (xs ys : List Truth) → (first_decisive xs ≡ Some false → ⊥) → first_decisive (xs ++ ys) ≡ first_decisive xs
first_stops [] ys h = absurd (h refl)
first_stops (Some false ∷ xs) ys h = first_stops xs ys h
first_stops (Some true ∷ xs) ys h = refl
first_stops (None ∷ xs) ys h = refl

-- if the first values decide nothing, the others decide
pub compare_passes : (op : math.BinaryOp) (rs xs ys : List Value) → compare op xs rs ≡ Some false → compare op (xs ++ ys) rs ≡ compare op ys rs
compare_passes op rs xs ys h = grind (arith, flat_map-append, first_passes)

pub compare_stops : (op : math.BinaryOp) (rs xs ys : List Value) (b : Truth) → compare op xs rs ≡ b → (b ≡ Some false → ⊥) → compare op (xs ++ ys) rs ≡ b
compare_stops op rs xs ys b is decides = grind (arith, flat_map-append, first_stops)

-- a test whether a result is known to be false
pub is_false : (b : Truth) → not (option_eq beq b (Some false)) ≡ false → b ≡ Some false
is_false b h = grind arith

pub is_not_false : (b : Truth) → not (option_eq beq b (Some false)) ≡ true → b ≡ Some false → ⊥
is_not_false b h is = grind arith

module _ (c : MemberCompared) where
  ok_is : (x y : Truth) (o : Outcome Truth) → o ≡ Ok x → o ≡ Ok y → x ≡ y
  ok_is x y o p q = cc

  passes_one : (o p : Outcome (List Tree)) → IsOkAnd p Any → and_then o (told_by c) ≡ Ok (Some false)
      → and_then (both_lists o p) (told_by c) ≡ and_then p (told_by c)
  passes_one o p t h = grind (arith, first_passes, ok_is, flat_map-append)

  stops_at : (o p : Outcome (List Tree)) (b : Truth) → IsOkAnd p Any → and_then o (told_by c) ≡ Ok b → (b ≡ Some false → ⊥)
      → and_then (both_lists o p) (told_by c) ≡ Ok b
  stops_at o p b t h decides = grind (arith, ok_is, first_stops, flat_map-append)

  module _ (e : Expression) (top : Tree) (k : IsMemberCompared c e) where
    -- an item of which the comparison is false is passed
    pub list_passes : (u : Tree) (rest : List Tree) → truth Lax e top u ≡ Ok (Some false) → items_truth c top (u ∷ rest) ≡ items_truth c top rest
    list_passes u rest is =
        ap (λ o. and_then o (told_by c)) ((steps_in_parts (steps_view c.names.now) top (u ∷ []) rest (members_are_total (steps_view c.names.now) k.members)))
        ∙ passes_one _ _ (members_total (steps_view c.names.now) top rest k.members) (sym (k.compares Lax top u) ∙ is)

    -- and another decides
    pub list_stops : (u : Tree) (rest : List Tree) (b : Truth) → truth Lax e top u ≡ Ok b → (b ≡ Some false → ⊥) → items_truth c top (u ∷ rest) ≡ Ok b
    list_stops u rest b is decides =
        ap (λ o. and_then o (told_by c)) ((steps_in_parts (steps_view c.names.now) top (u ∷ []) rest (members_are_total (steps_view c.names.now) k.members)))
        ∙ stops_at _ _ b (members_total (steps_view c.names.now) top rest k.members) (sym (k.compares Lax top u) ∙ is) decides

    -- for one item only an allocation fails
    pub list_refused : {r : Error} {o : Outcome Truth} (u : Tree) → Refines {A = Truth} (λ b d. b ≡ d) IsOutOfMemory (Err r) (truth Lax e top u)
        → Refines {A = Truth} (λ b d. b ≡ d) IsOutOfMemory (Err r) o
    list_refused {r = r} {o = o} u h = go (truth Lax e top u) (comparison_total c e top u k) h
      where
        go : (p : Outcome Truth) → IsOkAnd p Any → Refines {A = Truth} (λ b d. b ≡ d) IsOutOfMemory (Err r) p
            → Refines {A = Truth} (λ b d. b ≡ d) IsOutOfMemory (Err r) o
        go p t h = grind arith

  -- no items
  pub list_none : (top : Tree) (ts : List Tree) → ts ≡ [] → items_truth c top ts ≡ Ok (Some false)
  list_none top ts none = ap (items_truth c top) none ∙ ap (λ o. and_then o (told_by c)) (none_left Lax (steps_of (steps_view c.names.now)) top)

-- ---- steps to items, and then names of their members

pub steps-append : (mode : Mode) (front names : List math.Step) (top : Tree) (us : List Tree) → steps_meaning mode (steps_of (front ++ names)) top us
    ≡ and_then (steps_meaning mode (steps_of front) top us) (steps_meaning mode (steps_of names) top)
steps-append mode [] names top us = refl
steps-append mode (s ∷ front) names top us = grind (arith, (steps-append mode front names top))

start_at_root : (ss : math.Steps) (top : Tree) → start ss top top ≡ top
start_at_root ss top = grind arith

-- a comparison of such an operand with a literal
pub compares_list : (op : math.BinaryOp) (steps front names : List math.Step) (r : Expression) (literal : Value) (top : Tree) → steps ≡ front ++ names →
    is_comparison op ≡ true → operand_values Lax r top top ≡ Ok (literal ∷ []) → truth Lax (math.binary op (math.paths (steps_of steps)) r) top top
    ≡ and_then (steps_meaning Lax (steps_of front) top (top ∷ []))
    (λ us. and_then (steps_meaning Lax (steps_of names) top us) (λ ts. Ok (compare op (flat_map values_of_item ts) (literal ∷ []))))
compares_list op steps front names r literal top split compares is = rw (comparison_is Lax op (math.paths (steps_of steps)) r top top compares, is, split)
    (grind (arith, start_at_root (steps_of steps) top, steps-append Lax front names top (top ∷ [])))

-- the front as its steps are taken within an operand
pub by_front : (list : ListCompared) (e : Expression) (top : Tree) → IsListCompared list e → truth Lax e top top
    ≡ and_then (steps_meaning Lax (steps_of (map (taken_step AreRefused) (steps_view list.front.now))) top (top ∷ [])) (items_truth list.comparison top)
by_front list e top k = grind (arith, refused_steps)

-- without steps before the names, the member is that of the root
pub by_names : (list : ListCompared) (e : Expression) (top : Tree) (k : IsListCompared list e) → list.front.now ≡ []
    → truth Lax e top top ≡ truth Lax k.each top top
by_names list e top k none = grind arith

-- ---- children of a member

only_values : (mode : Mode) (top : Tree) (us : List Tree) → steps_meaning mode (steps_of (math.dot_wildcard ∷ [])) top us ≡ try_flat_map (values_step mode) us
only_values mode top us = nothing_behind mode top (try_flat_map (values_step mode) us)

-- an expression whose operands are the children of the member and the literal
pub compares_children : (mode : Mode) (op : math.BinaryOp) (names : List math.Step) (r : Expression) (literal : Value) (top t : Tree) → is_comparison op ≡ true →
    operand_values mode r top t ≡ Ok (literal ∷ [])
    → truth mode (math.binary op (math.paths (math.step math.current (steps_of (names ++ math.dot_wildcard ∷ [])))) r) top t
    ≡ and_then (steps_meaning mode (steps_of names) top (t ∷ []))
    (λ us. and_then (try_flat_map (values_step mode) us) (λ ts. Ok (compare op (flat_map values_of_item ts) (literal ∷ []))))
compares_children mode op names r literal top t compares is =
    compares_member mode op (steps_of (names ++ math.dot_wildcard ∷ [])) r literal top t compares is
    ∙ grind (arith, steps-append mode names (math.dot_wildcard ∷ []) top (t ∷ []), only_values mode top)
