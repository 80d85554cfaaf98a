-- The text of subscripts.
use Rattle.std.specs.Prelude.{ℕ, List, ◌++◌, codes}
use Rattle.std.specs.List.{join_by}
use Rattle.jsonb.specs.PathText.{entry_text}
use Rattle.jsonb.specs.PathTree.{Entry}

-- all subscripts, between the brackets
abbrev pub entries_text : List Entry → List ℕ
entries_text entries = join_by entry_text (codes ", ") entries

-- a subscript after another one
abbrev pub other_entry_text : Entry → List ℕ
other_entry_text entry = codes ", " ++ entry_text entry
