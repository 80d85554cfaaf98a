-- The rules that lists repeat: a separator, and the member after it.
use Rattle.std.specs.Prelude.{Bool, List}
use Rattle.jsonb_keypath.specs.Rules.{Rule, ◌>>◌, literal, list_of}
use Rattle.jsonb.specs.PathTree.{Entry, Expression}
use Rattle.jsonb.specs.PathGrammar.{spaced, atom_with, and_with, entry}

-- a comma, and the subscript after it
abbrev pub another_entry : Rule Entry
another_entry = literal "," >> spaced entry

abbrev pub entry_list : Rule (List Entry)
entry_list = list_of (spaced entry) (literal ",")

-- `&&`, and the condition after it
abbrev pub another_atom : (Bool → Rule Expression) → Bool → Rule Expression
another_atom nested is_in_filter = spaced (literal "&&") >> atom_with nested is_in_filter

-- `||`, and the conditions after it
abbrev pub another_and : (Bool → Rule Expression) → Bool → Rule Expression
another_and nested is_in_filter = spaced (literal "||") >> and_with nested is_in_filter
