-- The names of statuses, by their numbers.
use Rattle.std.proofs.Common.{◌≡◌, ◌∙◌, ℕ, Bool, true, false, List, Option, Some, None, Result, Ok, refl, sym, ap, eqb-true}
use Rattle.std.specs.Prelude.{if◌then◌else◌, nat_eq, option_copied}
use Rattle.std.specs.Borrow.{Bor}
use Rattle.jsonb_doc.specs.declared.error.Error.TheVariants.{InvalidJsonb, UnsupportedNumber, InvalidJsonPath, InvalidKeyPath, InvalidCast, InvalidObject, InvalidJsonType, ObjectDuplicateKey, Arithmetic, TooLarge, TooDeep, OutOfMemory, StrictPath}
use Rattle.jsonb_doc.specs.declared.error.ArithmeticFault.TheVariants.{Overflow, ZeroDivisor, Inexact, DecimalOperand}
use Rattle.jsonb_c.specs.Answers.{Delivers}
use Rattle.jsonb_c.specs.Private.Numbers.{status_name}
use Rattle.jsonb_c.specs.Private.Views.{found_text}
use Rattle.jsonb_c.specs.Status.{code, number_and_name}
use Rattle.jsonb_c.specs.declared.status.Status.{Status}
use Rattle.jsonb_c.specs.declared.status.Status.TheVariants.{Answered, Absent, BufferTooSmall, BadOffsets, NotUtf8, NoPath, Computed, OutOfOrder, NotJsonPath, LimitExceeded, Refused}

-- the name of a status is that of its number
named : (s : Status) → status_name (code s) ≡ Some (number_and_name s).1
named Answered = refl
named Absent = refl
named BufferTooSmall = refl
named BadOffsets = refl
named NotUtf8 = refl
named NoPath = refl
named Computed = refl
named OutOfOrder = refl
named (Refused InvalidJsonb) = refl
named (Refused UnsupportedNumber) = refl
named NotJsonPath = refl
named (Refused InvalidKeyPath) = refl
named (Refused InvalidCast) = refl
named (Refused InvalidObject) = refl
named (Refused InvalidJsonType) = refl
named (Refused ObjectDuplicateKey) = refl
named (Refused TooLarge) = refl
named (Refused TooDeep) = refl
named (Refused OutOfMemory) = refl
named (Refused StrictPath) = refl
named (Refused InvalidJsonPath) = refl
named LimitExceeded = refl
named (Refused (Arithmetic Overflow)) = refl
named (Refused (Arithmetic ZeroDivisor)) = refl
named (Refused (Arithmetic Inexact)) = refl
named (Refused (Arithmetic DecimalOperand)) = refl

pub name_of : (s : Status) (n : ℕ) → code s ≡ n → status_name n ≡ Some (number_and_name s).1
name_of s n is = ap status_name (sym is) ∙ named s

-- another number has no name
other : {A : Type 0} (n k : ℕ) (x rest : A) → (k ≡ n → ⊥) → (if nat_eq n k then x else rest) ≡ rest
other n k x rest differs = go (nat_eq n k) refl
  where
    go : (b : Bool) → nat_eq n k ≡ b → (if b then x else rest) ≡ rest
    go false is = refl
    go true is = absurd (differs (sym (eqb-true n k is)))

pub no_name : (n : ℕ) → ((s : Status) → code s ≡ n → ⊥) → status_name n ≡ None
no_name n none =
    other n 0 _ _ (none Answered) ∙
    other n 1 _ _ (none Absent) ∙
    other n 2 _ _ (none BufferTooSmall) ∙
    other n 3 _ _ (none BadOffsets) ∙
    other n 4 _ _ (none NotUtf8) ∙
    other n 5 _ _ (none NoPath) ∙
    other n 6 _ _ (none Computed) ∙
    other n 7 _ _ (none OutOfOrder) ∙
    other n 16 _ _ (none (Refused InvalidJsonb)) ∙
    other n 17 _ _ (none (Refused UnsupportedNumber)) ∙
    other n 18 _ _ (none NotJsonPath) ∙
    other n 19 _ _ (none (Refused InvalidKeyPath)) ∙
    other n 20 _ _ (none (Refused InvalidCast)) ∙
    other n 21 _ _ (none (Refused InvalidObject)) ∙
    other n 22 _ _ (none (Refused InvalidJsonType)) ∙
    other n 23 _ _ (none (Refused ObjectDuplicateKey)) ∙
    other n 24 _ _ (none (Refused TooLarge)) ∙
    other n 25 _ _ (none (Refused TooDeep)) ∙
    other n 26 _ _ (none (Refused OutOfMemory)) ∙
    other n 27 _ _ (none (Refused StrictPath)) ∙
    other n 28 _ _ (none (Refused InvalidJsonPath)) ∙
    other n 29 _ _ (none LimitExceeded) ∙
    other n 48 _ _ (none (Refused (Arithmetic Overflow))) ∙
    other n 49 _ _ (none (Refused (Arithmetic ZeroDivisor))) ∙
    other n 50 _ _ (none (Refused (Arithmetic Inexact))) ∙
    other n 51 _ _ (none (Refused (Arithmetic DecimalOperand)))

-- what is delivered is the name
pub delivers : (found : Option (Bor (List ℕ))) (wanted : Option (List ℕ)) (old new : List ℕ) (len status : ℕ) → option_copied found ≡ wanted
    → Delivers old new len status (found_text (Ok found)) → Delivers old new len status (Ok wanted)
delivers (Some text) wanted old new len status is h = rw (← is) h
delivers None wanted old new len status is h = rw (← is) h
