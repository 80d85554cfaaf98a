-- The statuses: their numbers, and their names in the header.
use Rattle.std.specs.Prelude.{ℕ, List, codes}
use Rattle.jsonb_doc.specs.declared.error.Error.TheVariants.{InvalidJsonb, UnsupportedNumber, InvalidJsonPath, InvalidKeyPath, InvalidCast, InvalidObject, InvalidJsonType, ObjectDuplicateKey, Arithmetic, TooLarge, TooDeep, OutOfMemory, StrictPath}
use Rattle.jsonb_doc.specs.declared.error.ArithmeticFault.TheVariants.{Overflow, ZeroDivisor, Inexact, DecimalOperand}
use Rattle.jsonb_c.specs.declared.status.Status.{Status}
use Rattle.jsonb_c.specs.declared.status.Status.TheVariants.{Answered, Absent, BufferTooSmall, BadOffsets, NotUtf8, NoPath, Computed, OutOfOrder, NotJsonPath, LimitExceeded, Refused}

-- The number and the name of a status. Text that is not a JSON path and a path that fails on a document have different
-- statuses.
abbrev pub number_and_name : Status → ℕ × List ℕ
number_and_name Answered = (0, codes "JDOC_OK")
number_and_name Absent = (1, codes "JDOC_NONE")
number_and_name BufferTooSmall = (2, codes "JDOC_BUFFER_TOO_SMALL")
number_and_name BadOffsets = (3, codes "JDOC_BAD_OFFSETS")
number_and_name NotUtf8 = (4, codes "JDOC_NOT_UTF8")
number_and_name NoPath = (5, codes "JDOC_NO_PATH")
number_and_name Computed = (6, codes "JDOC_COMPUTED")
number_and_name OutOfOrder = (7, codes "JDOC_OUT_OF_ORDER")
number_and_name (Refused InvalidJsonb) = (16, codes "JDOC_INVALID_JSONB")
number_and_name (Refused UnsupportedNumber) = (17, codes "JDOC_UNSUPPORTED_NUMBER")
number_and_name NotJsonPath = (18, codes "JDOC_INVALID_JSON_PATH")
number_and_name (Refused InvalidKeyPath) = (19, codes "JDOC_INVALID_KEY_PATH")
number_and_name (Refused InvalidCast) = (20, codes "JDOC_INVALID_CAST")
number_and_name (Refused InvalidObject) = (21, codes "JDOC_INVALID_OBJECT")
number_and_name (Refused InvalidJsonType) = (22, codes "JDOC_INVALID_JSON_TYPE")
number_and_name (Refused ObjectDuplicateKey) = (23, codes "JDOC_OBJECT_DUPLICATE_KEY")
number_and_name (Refused TooLarge) = (24, codes "JDOC_TOO_LARGE")
number_and_name (Refused TooDeep) = (25, codes "JDOC_TOO_DEEP")
number_and_name (Refused OutOfMemory) = (26, codes "JDOC_OUT_OF_MEMORY")
number_and_name (Refused StrictPath) = (27, codes "JDOC_STRICT_PATH")
number_and_name (Refused InvalidJsonPath) = (28, codes "JDOC_PATH_FAILED")
number_and_name LimitExceeded = (29, codes "JDOC_LIMIT_EXCEEDED")
number_and_name (Refused (Arithmetic Overflow)) = (48, codes "JDOC_OVERFLOW")
number_and_name (Refused (Arithmetic ZeroDivisor)) = (49, codes "JDOC_ZERO_DIVISOR")
number_and_name (Refused (Arithmetic Inexact)) = (50, codes "JDOC_INEXACT")
number_and_name (Refused (Arithmetic DecimalOperand)) = (51, codes "JDOC_DECIMAL_OPERAND")

-- The number of a status, which is what a call returns.
abbrev pub code : Status → ℕ
code status = (number_and_name status).0
