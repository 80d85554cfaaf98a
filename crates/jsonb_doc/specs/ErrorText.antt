-- What an error prints as: its name.
use Rattle.std.specs.Prelude.{ℕ, List, ◌++◌, codes}
use Rattle.jsonb_doc.specs.declared.error.ArithmeticFault.{ArithmeticFault}
use Rattle.jsonb_doc.specs.declared.error.ArithmeticFault.TheVariants.{Overflow, ZeroDivisor, Inexact, DecimalOperand}
use Rattle.jsonb_doc.specs.declared.error.Error.{Error}
use Rattle.jsonb_doc.specs.declared.error.Error.TheVariants.{InvalidJsonb, UnsupportedNumber, InvalidJsonPath, InvalidKeyPath, InvalidCast, InvalidObject, InvalidJsonType, ObjectDuplicateKey, Arithmetic, TooLarge, TooDeep, OutOfMemory, StrictPath}

abbrev pub fault_text : ArithmeticFault → List ℕ
fault_text Overflow = codes "Overflow"
fault_text ZeroDivisor = codes "ZeroDivisor"
fault_text Inexact = codes "Inexact"
fault_text DecimalOperand = codes "DecimalOperand"

abbrev pub error_text : Error → List ℕ
error_text InvalidJsonb = codes "InvalidJsonb"
error_text UnsupportedNumber = codes "UnsupportedNumber"
error_text InvalidJsonPath = codes "InvalidJsonPath"
error_text InvalidKeyPath = codes "InvalidKeyPath"
error_text InvalidCast = codes "InvalidCast"
error_text InvalidObject = codes "InvalidObject"
error_text InvalidJsonType = codes "InvalidJsonType"
error_text ObjectDuplicateKey = codes "ObjectDuplicateKey"
error_text (Arithmetic fault) = codes "Arithmetic(" ++ fault_text fault ++ codes ")"
error_text TooLarge = codes "TooLarge"
error_text TooDeep = codes "TooDeep"
error_text OutOfMemory = codes "OutOfMemory"
error_text StrictPath = codes "StrictPath"
