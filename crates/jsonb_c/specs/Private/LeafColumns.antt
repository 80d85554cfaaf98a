-- What the columns of leaves hold while they are made.
use Rattle.std.specs.Prelude.{◌≡◌, ℕ, List, map}
use Rattle.std.specs.List.{concat}
use Rattle.jsonb.specs.KeyPathText.{key_path_text}
use Rattle.jsonb.specs.KeyPathViews.{key_paths_view}
use Rattle.jsonb.specs.KeyPaths.{KeyPaths}
use Rattle.jsonb.specs.OwnedJsonb.{OwnedJsonb}
use Rattle.jsonb_doc.specs.Format.{Decodes}
use Rattle.jsonb_doc.specs.Payload.{Form}
use Rattle.jsonb_raw.specs.Leaves.{Leaf}
use Rattle.jsonb_c.specs.Columns.{positions_from}
use Rattle.jsonb_c.specs.declared.leaves.MadeColumn.{MadeColumn}
use Rattle.jsonb_c.specs.declared.leaves.LeafColumns.{LeafColumns}

-- the text of a key path, and a document
abbrev pub LeafRow : Type 0
LeafRow = List ℕ × List ℕ

-- these are the text of the path to the leaf, and a document of the leaf
abbrev pub IsRowOfLeaf : Form → Leaf → LeafRow → Type 0
IsRowOfLeaf form leaf row = (row.0 ≡ key_path_text leaf.0) × Decodes form row.1 leaf.1

abbrev pub paths_of : List LeafRow → List (List ℕ)
paths_of found = map (λ row. row.0) found

abbrev pub documents_of : List LeafRow → List (List ℕ)
documents_of found = map (λ row. row.1) found

-- the column has these rows
abbrev pub HasRows : MadeColumn → List (List ℕ) → Type 0
HasRows column rows = (column.bytes.items ≡ concat rows) × (column.positions.items ≡ positions_from 0 rows)

-- the columns have a row for each leaf
abbrev pub HasLeaves : LeafColumns → List LeafRow → Type 0
HasLeaves columns found = HasRows columns.paths (paths_of found) × HasRows columns.documents (documents_of found)

-- the row of a leaf: the text of its key path, and its document
abbrev pub leaf_row : KeyPaths × OwnedJsonb → LeafRow
leaf_row leaf = (key_path_text (key_paths_view leaf.0), leaf.1)
