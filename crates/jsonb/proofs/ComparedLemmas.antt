-- Comparisons of members of the item with literals.
use Rattle.jsonb.proofs.Common.{◌≡◌, List, [], ◌∷◌, map, flat_map, true, false, Option, Some, Ok, IsOkAnd, refl, sym, Outcome, and_then, try_flat_map, Tree, Expression, steps_of, steps_view, Truth, compare, Value, values_of, values_of_item, values_step, list_or, step_meaning, steps_meaning, truth, operand_values, AreChildrenCompared, IsMemberCompared, is_comparison, are_members, value_view, taken_step, AreRefused, Mode, Lax, MemberCompared, arith}
use Rattle.jsonb.specs.PathTree as math
use Rattle.jsonb.proofs.RefinesLemmas.{with_ok}
use Rattle.jsonb.proofs.MemberLemmas.{both_true}
use Rattle.jsonb.proofs.StepLemmas.{joined_one, refused_steps}
use Rattle.jsonb.proofs.KeptLemmas.{comparison_is}

-- The result of comparing the values of the items that were found.
abbrev pub told_by : MemberCompared → List Tree → Outcome Truth
told_by c ts = Ok (compare c.op (flat_map values_of_item ts) (value_view c.literal ∷ []))

-- the truth by the steps as they are taken within an operand
pub truth_is : (c : MemberCompared) (e : Expression) (mode : Mode) (top t : Tree) → IsMemberCompared c e →
    truth mode e top t ≡ and_then (steps_meaning mode (steps_of (map (taken_step AreRefused) (steps_view c.names.now))) top (t ∷ [])) (told_by c)
truth_is c e mode top t k = grind (arith, refused_steps)

-- an expression whose operands are the member and the literal
pub compares_member : (mode : Mode) (op : math.BinaryOp) (steps : math.Steps) (r : Expression) (literal : Value) (top t : Tree) → is_comparison op ≡ true →
    operand_values mode r top t ≡ Ok (literal ∷ []) → truth mode (math.binary op (math.paths (math.step math.current steps)) r) top t
    ≡ and_then (steps_meaning mode steps top (t ∷ [])) (λ ts. Ok (compare op (flat_map values_of_item ts) (literal ∷ [])))
compares_member mode op steps r literal top t compares is = grind (arith, comparison_is)

-- ---- in lax mode no comparison is refused

abbrev pub Any : {A : Type 0} → A → Type 0
Any x = Unit {0}

pub listed_total : (otherwise : List Tree) (o : Option (List Tree)) → IsOkAnd (list_or Lax otherwise o) Any
listed_total otherwise o = grind arith

pub all_total : (f : Tree → Outcome (List Tree)) → ((t : Tree) → IsOkAnd (f t) Any) → (ts : List Tree) → IsOkAnd (try_flat_map f ts) Any
all_total f h [] = tt
all_total f h (t ∷ ts) = grind (arith, (all_total f h ts))

-- Holds if the steps fail for no item.
abbrev pub AreTotal : List math.Step → Type 0
AreTotal [] = Unit {0}
AreTotal (s ∷ ss) = ((top t : Tree) → IsOkAnd (step_meaning Lax s top t) Any) × AreTotal ss

pub steps_total : (ss : List math.Step) (top : Tree) (ts : List Tree) → AreTotal ss → IsOkAnd (steps_meaning Lax (steps_of ss) top ts) Any
steps_total [] top ts h = tt
steps_total (s ∷ ss) top ts h = with_ok Any (λ o. IsOkAnd o Any) (try_flat_map (step_meaning Lax s top) ts) (steps_meaning Lax (steps_of ss) top)
    (all_total (step_meaning Lax s top) (λ t. h.0 top t) ts) (λ us _. steps_total ss top us h.1)

pub members_are_total : (ss : List math.Step) → are_members ss ≡ true → AreTotal ss
members_are_total [] h = tt
members_are_total (s ∷ ss) h = grind (arith, (members_are_total ss), both_true, listed_total)

pub members_total : (ss : List math.Step) (top : Tree) (ts : List Tree) → are_members ss ≡ true → IsOkAnd (steps_meaning Lax (steps_of ss) top ts) Any
members_total ss top ts h = grind (arith, steps_total, members_are_total)

pub comparison_total : (c : MemberCompared) (e : Expression) (top t : Tree) → IsMemberCompared c e → IsOkAnd (truth Lax e top t) Any
comparison_total c e top t k = grind (arith, k.compares Lax top t, members_total (steps_view c.names.now) top (t ∷ []) k.members)

-- the children of the member, if there is one
children_taken : (f : Tree → Outcome (List Tree)) (c : MemberCompared) (us : List Tree) → ((u : Tree) → IsOkAnd (f u) Any)
    → IsOkAnd (and_then (try_flat_map f us) (told_by c)) Any
children_taken f c us h = with_ok Any (λ o. IsOkAnd o Any) (try_flat_map f us) (told_by c) (all_total f h us) (λ ts _. tt)

pub children_total : (c : MemberCompared) (e : Expression) (top t : Tree) → AreChildrenCompared c e → IsOkAnd (truth Lax e top t) Any
children_total c e top t k =
    rw (sym (k.compares Lax top t)) at (with_ok Any (λ o. IsOkAnd o Any) (steps_meaning Lax (steps_of (steps_view c.names.now)) top (t ∷ []))
    (λ us. and_then (try_flat_map (values_step Lax) us) (told_by c))
    (members_total (steps_view c.names.now) top (t ∷ []) k.members) (λ us _. children_taken (values_step Lax) c us (λ u. listed_total [] (values_of u))))

-- what a comparison of the children of these items says
abbrev pub told_of : MemberCompared → Mode → List Tree → Outcome Truth
told_of c mode us = and_then (try_flat_map (values_step mode) us) (told_by c)

pub children_truth_is : (c : MemberCompared) (e : Expression) (mode : Mode) (top t : Tree) → AreChildrenCompared c e →
    truth mode e top t ≡ and_then (steps_meaning mode (steps_of (map (taken_step AreRefused) (steps_view c.names.now))) top (t ∷ [])) (told_of c mode)
children_truth_is c e mode top t k = grind (arith, refused_steps)

pub children_of_one : (c : MemberCompared) (mode : Mode) (u : Tree) (us : List Tree) → us ≡ u ∷ []
    → told_of c mode us ≡ and_then (values_step mode u) (told_by c)
children_of_one c mode u us is = grind (arith, joined_one (values_step mode) u)

pub children_of_none : (c : MemberCompared) (mode : Mode) (us : List Tree) → us ≡ [] → told_of c mode us ≡ Ok (Some false)
children_of_none c mode us is = grind arith

pub children_of_item : (c : MemberCompared) (e : Expression) (mode : Mode) (top t : Tree) → AreChildrenCompared c e → c.names.now ≡ []
    → truth mode e top t ≡ and_then (values_step mode t) (told_by c)
children_of_item c e mode top t k none = grind (arith, k.compares mode top t, joined_one (values_step mode) t)

-- values that are compared with none
pub compared_with_none : (op : math.BinaryOp) (ls : List Value) → compare op ls [] ≡ Some false
compared_with_none op [] = refl
compared_with_none op (l ∷ ls) = compared_with_none op ls
