-- The payload of an extension value in range reads back.
use Rattle.jsonb_doc.proofs.Common.{◌≡◌, ℕ, ◌<◌, ◌^◌, List, ◌++◌, ap, ◌∙◌, arith, Some, ℤ, FitsSigned, to_z-of_z, Width, w64, byte_len, cast_signed, cast_unsigned, big_number-reads_back, Extension, FitsExtension, fixed, fixed_bytes, extension_payload, extension_of, common_steps}

pub fixed_back : (w : Width) (z : ℤ) (rest : List ℕ) → FitsSigned w z → cast_unsigned w z < 256 ^ byte_len w → fixed w (fixed_bytes w z ++ rest) ≡ z
fixed_back w z rest fits small = ap (cast_signed w) (big_number-reads_back (byte_len w) (cast_unsigned w z) rest small) ∙ to_z-of_z w z fits

pub fixed64 : (z : ℤ) (rest : List ℕ) → FitsSigned w64 z → fixed w64 (fixed_bytes w64 z ++ rest) ≡ z
fixed64 z rest fits = fixed_back w64 z rest fits (grind arith)

pub extension_back : (x : Extension) → FitsExtension x → extension_of (extension_payload x) ≡ Some x
unfolding extension_of
extension_back x h = grind (arith, common_steps, fixed_back, fixed64)
