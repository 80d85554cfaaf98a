-- The kinds of entries, and their numbers in words.
use Rattle.std.specs.Prelude.{ℕ}
use Rattle.jsonb_doc.specs.declared.layout.EntryKind.{EntryKind}
use Rattle.jsonb_doc.specs.declared.layout.EntryKind.TheVariants.{Null, Text, Number, False, True, Container, Extension, Unknown}

-- The number of an entry's kind. No document has an entry of the last kind.
abbrev pub kind_number : EntryKind → ℕ
kind_number Null = 0
kind_number Text = 1
kind_number Number = 2
kind_number False = 3
kind_number True = 4
kind_number Container = 5
kind_number Extension = 6
kind_number Unknown = 7
