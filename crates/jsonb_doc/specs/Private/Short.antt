-- Numbers whose digits are stored in at most 64 bits.
use Rattle.std.specs.Prelude.{pos}
use Rattle.jsonb_doc.specs.Number.{Number, number_from, uint64, int64, decimal64}
use Rattle.jsonb_doc.specs.declared.short_number.ShortNumber.{ShortNumber}
use Rattle.jsonb_doc.specs.declared.short_number.ShortNumber.TheVariants.{Unsigned, Signed, Decimal}

-- the number of the digits
abbrev pub short_value : ShortNumber → Number
short_value (Unsigned n) = number_from uint64 (pos n) 0
short_value (Signed z) = number_from int64 z 0
short_value (Decimal z scale) = number_from decimal64 z scale

-- the parts of the number; zeros of different variants differ
abbrev pub short_parts : ShortNumber → Number
short_parts (Unsigned n) = record { variant = uint64; whole = pos n; scale = 0 }
short_parts (Signed z) = record { variant = int64; whole = z; scale = 0 }
short_parts (Decimal z scale) = record { variant = decimal64; whole = z; scale = scale }
