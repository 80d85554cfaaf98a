-- Numbers of the items that were found, each with a sign.
use Rattle.jsonb.proofs.Common.{◌≡◌, ℕ, ◌+◌, ◌<◌, ◌≤◌, List, [], ◌∷◌, ◌++◌, Ok, Err, IsOkAnd, refl, map, append_assoc, length, get_or, set, take, drop, arith, map-append, take_all, take_more_set, drop-set-lt, Outcome, and_then, try_flat_map, Refines, IsOutOfMemory, Number, Tree, number_view, Error, all_numbers, signed_number, UnaryOp, AllZip, IsNumberTree, IsNumberItem, Value}
use Rattle.jsonb_doc.specs.declared.number.Number.{Number as CodeNumber}
use Rattle.jsonb.proofs.CalculateLemmas.{as_memory, number_added}
use Rattle.jsonb.proofs.RefinesLemmas.{Is, related_of_map}
use Rattle.jsonb.proofs.Progress.{Progress, at_start, one_more, refused_in, at_end, list_first, list_end}

-- ---- the numbers of a list are those of its parts

same_number : (o : Outcome (List Number)) → o ≡ and_then o (λ back. Ok ([] ++ back))
same_number o = grind arith

numbers-append : (xs ys : List Value) → all_numbers (xs ++ ys) ≡ and_then (all_numbers xs) (λ front. and_then (all_numbers ys) (λ back. Ok (front ++ back)))
numbers-append [] ys = same_number (all_numbers ys)
numbers-append (v ∷ xs) ys = grind (arith, numbers-append xs ys)

pub numbers_of_values : (vs : List Value) → all_numbers vs ≡ try_flat_map (λ v. all_numbers (v ∷ [])) vs
numbers_of_values [] = refl
numbers_of_values (v ∷ vs) = grind (arith, (numbers_of_values vs), (numbers-append (v ∷ []) vs))

-- ---- numbers after the existing ones

abbrev pub Behind : List CodeNumber → List CodeNumber → List Number → Type 0
Behind old new ns = map number_view new ≡ map number_view old ++ ns

-- one more number, which a value is
pub number_behind : (old mid new : List CodeNumber) (n : CodeNumber) (o : Outcome (List Number)) (before : List Number) → Behind old mid before
    → new ≡ mid ++ n ∷ [] → IsOkAnd o (λ ns. number_view n ∷ [] ≡ ns) → IsOkAnd o (λ us. Behind old new (before ++ us))
number_behind old mid new n o before first added is = grind (arith, map-append, append_assoc)

-- ---- numbers that are signed in their places

-- Holds if the first `i` numbers are signed, and the others are unchanged.
abbrev pub SignedUntil : UnaryOp → List CodeNumber → ℕ → Outcome (List Tree) → Type 0
SignedUntil op xs i outcome = Progress (AllZip (Is number_view) (drop i xs)) (AllZip IsNumberItem (take i xs)) (signed_number op) outcome

pub none_signed : (op : UnaryOp) (xs : List CodeNumber) → SignedUntil op xs 0 (try_flat_map (signed_number op) (map number_view xs))
none_signed op xs = grind (arith, at_start, signed_number, Is, related_of_map)

module _ (op : UnaryOp) (xs : List CodeNumber) (i : ℕ) (d : CodeNumber) (outcome : Outcome (List Tree)) (done : SignedUntil op xs i outcome) where
  pub one_signed : (v : CodeNumber) → i < length xs → IsOkAnd (signed_number op (number_view (get_or xs i d))) (IsNumberTree v)
      → SignedUntil op (set xs i v) (i + 1) outcome
  one_signed v short is =
      let next : i < i + 1 = omega arith in
      rw (drop-set-lt (i + 1) xs i v next, take_more_set xs i v short)
      (one_more {Done' = AllZip IsNumberItem (take i xs ++ v ∷ [])} done (list_first (Is number_view) xs i d short) (λ n before same held. rw (← same)
      (number_added (take i xs) (take i xs ++ v ∷ []) v (signed_number op (number_view (get_or xs i d))) before refl is held)))

  pub one_refused : {Q : Unit {0} → List Tree → Type 0} {e : Error} → i < length xs
      → Refines {A = CodeNumber} IsNumberTree (λ _. ⊥) (Err e) (signed_number op (number_view (get_or xs i d))) → Refines {A = Unit {0}} Q IsOutOfMemory
      (Err e) outcome
  one_refused short is = grind (arith, refused_in, list_first, Is, as_memory)

pub all_signed : (op : UnaryOp) (xs : List CodeNumber) (i : ℕ) (outcome : Outcome (List Tree)) → SignedUntil op xs i outcome → length xs ≤ i
    → IsOkAnd outcome (AllZip IsNumberItem xs)
all_signed op xs i outcome done end = rw (take_all i xs end) at (at_end done (list_end (Is number_view) xs i end))
