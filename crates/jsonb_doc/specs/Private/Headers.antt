-- The kinds of headers, and their numbers in words.
use Rattle.std.specs.Prelude.{ℕ}
use Rattle.jsonb_doc.specs.Format.{scalar_header, object_header, array_header}
use Rattle.jsonb_doc.specs.declared.layout.HeaderKind.{HeaderKind}
use Rattle.jsonb_doc.specs.declared.layout.HeaderKind.TheVariants.{Scalar, Object, Array}

-- the number of a header's kind
abbrev pub header_number : HeaderKind → ℕ
header_number Scalar = scalar_header
header_number Object = object_header
header_number Array = array_header
