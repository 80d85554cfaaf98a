-- The numbers of some kinds of entries.
use Rattle.std.specs.Prelude.{ℕ}
use Rattle.jsonb_doc.specs.Kinds.{kind_number}
use Rattle.jsonb_doc.specs.declared.layout.EntryKind.TheVariants.{Null, Text, Number, Container}

abbrev pub null_entry : ℕ
null_entry = kind_number Null

abbrev pub text_entry : ℕ
text_entry = kind_number Text

abbrev pub number_entry : ℕ
number_entry = kind_number Number

abbrev pub container_entry : ℕ
container_entry = kind_number Container
