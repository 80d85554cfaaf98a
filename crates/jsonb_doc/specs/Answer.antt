-- Results of functions: a stated value, or one of a stated set of errors.
--
-- A clause `MatchResult result P Errors` says that the result is `Ok` with a value that satisfies P, or `Err` with
-- one of the errors. `Refines` is for functions whose meaning may itself be an error.
use Rattle.std.specs.Prelude.{◌≡◌, ◌⊎◌, List, [], ◌∷◌, ◌++◌, Option, Some, None, Result, Ok, Err, IfOk, IfErr, IsOkAnd, ⊤}
use Rattle.jsonb_doc.specs.declared.error.Error.{Error}
use Rattle.jsonb_doc.specs.declared.error.Error.TheVariants.{InvalidJsonb, UnsupportedNumber, OutOfMemory}

-- ---- sets of errors

-- Holds if the error is `OutOfMemory`: an allocation failed.
abbrev pub IsOutOfMemory : Error → Type 0
IsOutOfMemory e = e ≡ OutOfMemory

-- Holds if the error is `InvalidJsonb` or `UnsupportedNumber`: the bytes do not decode.
abbrev pub IsDecodingError : Error → Type 0
IsDecodingError e = (e ≡ InvalidJsonb) ⊎ (e ≡ UnsupportedNumber)

-- Holds if the error is one of these, or this one: `IsDecodingError or OutOfMemory`.
infixl 5 ◌or◌
abbrev pub ◌or◌ : (Error → Type 0) → Error → Error → Type 0
(Refusals or refusal) e = Refusals e ⊎ (e ≡ refusal)

-- Holds if the error is one of these, or this one and the condition holds:
-- `IsOutOfMemory or TooLarge when IsTooLarge form t`.
infixl 5 ◌or◌when◌
abbrev pub ◌or◌when◌ : (Error → Type 0) → Error → Type 0 → Error → Type 0
(Refusals or refusal when Fact) e = Refusals e ⊎ ((e ≡ refusal) × Fact)

-- ---- meanings that may be errors

-- A value, or an error.
abbrev pub Outcome : Type 0 → Type 0
Outcome A = Result A Error

-- The outcome of a function of the value, or the error.
abbrev pub and_then : {A B : Type 0} → Outcome A → (A → Outcome B) → Outcome B
and_then (Ok x) next = next x
and_then (Err e) next = Err e

-- The lists of all elements, concatenated, or the first error in their order.
abbrev pub try_flat_map : {A B : Type 0} → (A → Outcome (List B)) → List A → Outcome (List B)
try_flat_map f [] = Ok []
try_flat_map f (x ∷ xs) = and_then (f x) (λ front. and_then (try_flat_map f xs) (λ back. Ok (front ++ back)))

-- Holds if the result refines the meaning: its value is related to that of the meaning, or it has the error of the
-- meaning, or another error of the call.
pub record Refines {A B : Type 0} (R : A → B → Type 0) (Other : Error → Type 0) (answer : Outcome A)
    (meaning : Outcome B) : Type 0 where
  pub ok : IfOk answer (λ x. IsOkAnd meaning (R x))
  pub err : IfErr answer (λ e. Other e ⊎ (meaning ≡ Err e))

-- Holds if both are `Some` and related, or both are `None`.
abbrev pub SameOption : {A B : Type 0} → (A → B → Type 0) → Option A → Option B → Type 0
SameOption R (Some x) (Some y) = R x y
SameOption R None None = ⊤
SameOption R _ _ = ⊥
