-- Results of reading a payload.
use Rattle.std.specs.Prelude.{◌≡◌, ℕ, ◌==◌, true, false, List, [], ◌∷◌, length, drop, Option, Some, None, Result, Ok, Err, if◌then◌else◌}
use Rattle.std.specs.Bool.{then_some}
use Rattle.std.specs.Int.{w32, w64}
use Rattle.jsonb_doc.specs.Extension.{Extension, binary, date, timestamp, timestamp_tz, interval}
use Rattle.jsonb_doc.specs.Payload.{number_of, fixed}
use Rattle.jsonb_doc.specs.AnyBytes.Unsupported.{is_unsupported}
use Rattle.jsonb_doc.specs.declared.number.Number.{Number}
use Rattle.jsonb_doc.specs.declared.extension.ExtensionValue.{ExtensionValue}
use Rattle.jsonb_doc.specs.declared.error.Error.{Error}
use Rattle.jsonb_doc.specs.declared.error.Error.TheVariants.{InvalidJsonb, UnsupportedNumber}
use Rattle.jsonb_doc.specs.View.{number_parts, extension_view}

-- why a payload is not a number
abbrev pub IsNoNumber : List ℕ → Error → Type 0
IsNoNumber payload UnsupportedNumber = (number_of payload ≡ None) × (is_unsupported payload ≡ true)
IsNoNumber payload InvalidJsonb = (number_of payload ≡ None) × (is_unsupported payload ≡ false)
IsNoNumber payload _ = ⊥

-- the result of reading a payload
abbrev pub ReadsNumber : List ℕ → Result Number Error → Type 0
ReadsNumber payload (Ok n) = number_of payload ≡ Some (number_parts n)
ReadsNumber payload (Err e) = IsNoNumber payload e

-- the extension value of a payload
unfoldable pub extension_of : List ℕ → Option Extension
extension_of [] = None
extension_of (first ∷ rest) =
    if first == 0x00 then Some (binary rest)
    else if first == 0x10 then then_some (length rest == 4) (date (fixed w32 rest))
    else if first == 0x20 then then_some (length rest == 8) (timestamp (fixed w64 rest))
    else if first == 0x30 then
    then_some (length rest == 12) (timestamp_tz (fixed w32 rest) (fixed w64 (drop 4 rest)))
    else if first == 0x40 then
    then_some (length rest == 16) (interval (fixed w32 rest) (fixed w32 (drop 4 rest)) (fixed w64 (drop 8 rest)))
    else None

-- the result of reading an extension's payload
abbrev pub ReadsExtension : List ℕ → Result ExtensionValue Error → Type 0
ReadsExtension payload (Ok x) = extension_of payload ≡ Some (extension_view x)
ReadsExtension payload (Err e) = (extension_of payload ≡ None) × (e ≡ InvalidJsonb)
