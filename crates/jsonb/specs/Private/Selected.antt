-- How many parts a path selects, and the array of the selected items.
use Rattle.std.specs.Prelude.{ℕ, Bool, true, false, List, length}
use Rattle.jsonb_doc.specs.Tree.{Tree, array, trees_of}
use Rattle.jsonb.specs.Private.Selection.{node_spots}
use Rattle.jsonb.specs.declared.selector.selected.Selected.{Selected}
use Rattle.jsonb.specs.declared.selector.selected.Selected.TheVariants as selected

abbrev pub selected_len : Selected → ℕ
selected_len (selected.Nodes spots) = length (node_spots spots)
selected_len (selected.Numbers numbers) = length numbers.items
selected_len (selected.Made part) = 1

-- whether an expression has computed the items
abbrev pub is_computed : Selected → Bool
is_computed (selected.Nodes spots) = false
is_computed (selected.Numbers numbers) = true
is_computed (selected.Made part) = true

abbrev pub array_of : List Tree → Tree
array_of ts = array (trees_of ts)
