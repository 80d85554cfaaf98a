-- Spans that are delivered are within the bytes.
use Rattle.std.proofs.Common.{◌≡◌, ◌∙◌, ℕ, List, Option, Some, None, Result, Ok, Err, sym, arith}
use Rattle.std.specs.Prelude.{IfOk, IfSome}
use Rattle.jsonb_doc.specs.declared.error.ArithmeticFault.TheVariants.{Overflow, ZeroDivisor, Inexact, DecimalOperand}
use Rattle.jsonb_doc.specs.declared.error.Error.{Error}
use Rattle.jsonb_doc.specs.declared.error.Error.TheVariants.{InvalidJsonb, UnsupportedNumber, InvalidJsonPath, InvalidKeyPath, InvalidCast, InvalidObject, InvalidJsonType, ObjectDuplicateKey, Arithmetic, TooLarge, TooDeep, OutOfMemory, StrictPath}
use Rattle.jsonb.specs.declared.selector.first_item.FirstItem.{FirstItem}
use Rattle.jsonb.specs.declared.selector.first_item.FirstItem.TheVariants.{At, Computed}
use Rattle.jsonb_c.specs.Answers.{Shows}
use Rattle.jsonb_c.specs.FirstSpans.{ShowsFirst}
use Rattle.jsonb_c.specs.Private.Views.{IsFirstWithin}
use Rattle.jsonb_c.specs.Spans.{IsWithin}
use Rattle.jsonb_c.specs.Status.{code}
use Rattle.jsonb_c.specs.declared.status.Status.TheVariants.{Answered, Refused}
use Rattle.jsonb_c.specs.declared.span.Span.{Span}

pub refused : (e : Error) → code (Refused e) ≡ code Answered → ⊥
refused InvalidJsonb is = let k : 16 ≡ 0 = is in omega (arith, k)
refused UnsupportedNumber is = let k : 17 ≡ 0 = is in omega (arith, k)
refused InvalidJsonPath is = let k : 28 ≡ 0 = is in omega (arith, k)
refused InvalidKeyPath is = let k : 19 ≡ 0 = is in omega (arith, k)
refused InvalidCast is = let k : 20 ≡ 0 = is in omega (arith, k)
refused InvalidObject is = let k : 21 ≡ 0 = is in omega (arith, k)
refused InvalidJsonType is = let k : 22 ≡ 0 = is in omega (arith, k)
refused ObjectDuplicateKey is = let k : 23 ≡ 0 = is in omega (arith, k)
refused TooLarge is = let k : 24 ≡ 0 = is in omega (arith, k)
refused TooDeep is = let k : 25 ≡ 0 = is in omega (arith, k)
refused OutOfMemory is = let k : 26 ≡ 0 = is in omega (arith, k)
refused StrictPath is = let k : 27 ≡ 0 = is in omega (arith, k)
refused (Arithmetic Overflow) is = let k : 48 ≡ 0 = is in omega (arith, k)
refused (Arithmetic ZeroDivisor) is = let k : 49 ≡ 0 = is in omega (arith, k)
refused (Arithmetic Inexact) is = let k : 50 ≡ 0 = is in omega (arith, k)
refused (Arithmetic DecimalOperand) is = let k : 51 ≡ 0 = is in omega (arith, k)

module _ (document : List ℕ) where
  pub shown : (answer : Result (Option Span) Error) (old new : Span) (status : ℕ) → IfOk answer (λ found. IfSome found (IsWithin document))
      → Shows old new status answer → status ≡ code Answered → IsWithin document new
  shown (Ok (Some span)) old new status within is done = rw is.0 within
  shown (Ok None) old new status within is done = let k : 1 ≡ 0 = sym is.1 ∙ done in absurd (omega (arith, k))
  shown (Err e) old new status within is done = absurd (refused e (sym is.1 ∙ done))

  pub shown_first : (answer : Result (Option (FirstItem Span)) Error) (old new : Span) (status : ℕ)
      → IfOk answer (λ found. IfSome found (IsFirstWithin document)) → ShowsFirst old new status answer → status ≡ code Answered → IsWithin document new
  shown_first (Ok (Some (At span))) old new status within is done = rw is.0 within
  shown_first (Ok (Some Computed)) old new status within is done = let k : 6 ≡ 0 = sym is.1 ∙ done in absurd (omega (arith, k))
  shown_first (Ok None) old new status within is done = let k : 1 ≡ 0 = sym is.1 ∙ done in absurd (omega (arith, k))
  shown_first (Err e) old new status within is done = absurd (refused e (sym is.1 ∙ done))
