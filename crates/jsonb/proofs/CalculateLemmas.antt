-- Values that are numbers, and the results of arithmetic.
use Rattle.jsonb.proofs.Common.{◌≡◌, ℤ, Bool, if◌then◌else◌, MatchResult, IfErr, List, [], ◌∷◌, ◌++◌, Some, IsOkAnd, sym, Outcome, Refines, IsOutOfMemory, Operation, calculated, IsResultOf, Number, number_from, Tree, number_view, two_numbers, number_list, AllZip, only_number, IsNumberTree, IsNumberItem, IsPathError, IsSelectionError, Value, Mode, Lax, arith}
use Rattle.jsonb_doc.specs.Arithmetic.{integer}
use Rattle.jsonb_doc.specs.declared.number.Number.{Number as CodeNumber}
use Rattle.jsonb.specs.Values.{number}
use Rattle.jsonb.proofs.RefinesLemmas.{AllZip-append}

-- what never fails for lack of memory
pub as_memory : {A B : Type 0} {R : A → B → Type 0} {r : Outcome A} {o : Outcome B} → Refines R (λ _. ⊥) r o → Refines R IsOutOfMemory r o
as_memory h = grind arith

-- ---- a result of arithmetic is a number as in a tree, in which every zero is one number, or an arithmetic fault

abbrev pub IsNormal : Number → Type 0
IsNormal r = number_from r.variant r.whole r.scale ≡ r

module _ (mode : Mode) where
  abbrev IsSound : Outcome Number → Type 0
  IsSound o = MatchResult o IsNormal (IsPathError mode)

  chosen : (b : Bool) (o p : Outcome Number) → IsSound o → IsSound p → IsSound (if b then o else p)
  chosen b o p h k = grind arith

  integer_sound : (z : ℤ) → IsSound (integer z)
  integer_sound z = grind (arith, chosen)

  calculated_sound : (o : Operation) (m n : Number) → IsSound (calculated o m n)
  calculated_sound o m n = grind (arith, chosen, integer_sound)

  refused_so : (o : Outcome Number) (r : Outcome CodeNumber) → IsResultOf o r → IsSound o → IfErr r (IsPathError mode)
  refused_so o r is h = grind arith

  pub calculation_refused : (o : Operation) (m n : Number) (r : Outcome CodeNumber) → IsResultOf (calculated o m n) r → IfErr r (IsPathError mode)
  calculation_refused o m n r is = refused_so (calculated o m n) r is (calculated_sound o m n)

  -- a path's error is one of a selection
  pub refused_as_path : {A : Type 0} (r : Outcome A) → IfErr r (IsPathError mode) → IfErr r (IsSelectionError mode)
  refused_as_path r h = grind arith

outcome_given : (o : Outcome Number) (r : Outcome CodeNumber) → IsSound Lax o → IsResultOf o r → Refines IsNumberTree (λ _. ⊥) r (number_list o)
outcome_given o r normal is = grind arith

-- ---- operands

lone_is : (vs : List Value) (n : Number) → only_number vs ≡ Some n → vs ≡ number n ∷ []
lone_is vs n h = grind arith

two_are : (o : Operation) (ls rs : List Value) (m n : Number) → Some m ≡ only_number ls → Some n ≡ only_number rs
    → two_numbers o ls rs ≡ number_list (calculated o m n)
two_are o ls rs m n p q = λ i. two_numbers o (lone_is ls m (sym p) i) (lone_is rs n (sym q) i)

-- two operands of one number each
pub two_given : (o : Operation) (ls rs : List Value) (m n : CodeNumber) (r : Outcome CodeNumber) → Some (number_view m) ≡ only_number ls
    → Some (number_view n) ≡ only_number rs
    → IsResultOf (calculated o (number_view m) (number_view n)) r → Refines IsNumberTree (λ _. ⊥) r (two_numbers o ls rs)
two_given o ls rs m n r p q is = rw (two_are o ls rs _ _ p q) (outcome_given _ r (calculated_sound Lax o (number_view m) (number_view n)) is)

-- one more number
pub number_added : (old new : List CodeNumber) (n : CodeNumber) (o : Outcome (List Tree)) (before : List Tree)
    → new ≡ old ++ n ∷ [] → IsOkAnd o (IsNumberTree n) → AllZip IsNumberItem old before
    → IsOkAnd o (λ us. AllZip IsNumberItem new (before ++ us))
number_added old new n o before added is held = grind (arith, AllZip-append)
