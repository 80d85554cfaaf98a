-- Bytes that do not decode, and those that would if each unsupported number were a number.
use Rattle.std.specs.Prelude.{ℕ, Bool, false, ◌||◌, ◌&&◌, ◌==◌, if◌then◌else◌, List, [], ◌∷◌, length, Some, None}
use Rattle.std.specs.Option.{option_or}
use Rattle.jsonb_doc.specs.Number.{zero_number}
use Rattle.jsonb_doc.specs.Payload.{NumberReader, number_of, any}
use Rattle.jsonb_doc.specs.Tree.{Tree}
use Rattle.jsonb_doc.specs.Format.{IsDocument, Decodes}

-- Whether the payload is that of a float or of a decimal of 256 bits.
unfoldable pub is_unsupported : List ℕ → Bool
is_unsupported [] = false
is_unsupported (first ∷ rest) =
    first == 0x10 || first == 0x20 || first == 0x30 || first == 0x60 || (first == 0x70 && length rest == 33)

-- Like `number_of`, except that an unsupported payload counts as a zero.
abbrev pub number_or_unsupported : NumberReader
number_or_unsupported payload =
    option_or (number_of payload) (if is_unsupported payload then Some zero_number else None)

-- Holds if the bytes would decode to the tree if each float and each decimal of 256 bits were a number.
abbrev pub WouldDecode : List ℕ → Tree → Type 0
WouldDecode bytes t = IsDocument number_or_unsupported t bytes

-- Holds if the bytes decode to no tree, but would if each float and each decimal of 256 bits were a number.
abbrev pub IsUnsupportedDocument : List ℕ → Type 0
IsUnsupportedDocument bytes = ((t : Tree) → Decodes any bytes t → ⊥) × ((t : Tree) × WouldDecode bytes t)

-- Holds if the bytes decode to no tree, and would not either if each float and each decimal of 256 bits were a number.
abbrev pub IsNoDocument : List ℕ → Type 0
IsNoDocument bytes = (t : Tree) → WouldDecode bytes t → ⊥
