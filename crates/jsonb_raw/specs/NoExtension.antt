-- Trees without extension values.
use Rattle.std.specs.Prelude.{◌∷◌, false, not, IsTrue}
use Rattle.std.specs.List.{AllByRecursion}
use Rattle.std.specs.Map.{values_of}
use Rattle.jsonb_doc.specs.Tree.{Tree}
use Rattle.jsonb_raw.specs.Leaves.{leaves}
use Rattle.jsonb_raw.specs.Scalars.{is_extension_value}

-- Holds if no extension occurs in the tree: it is not one, and none of its leaves is.
abbrev pub HasNoExtension : Tree → Type 0
HasNoExtension t = AllByRecursion (λ u. IsTrue (not (is_extension_value u))) (t ∷ values_of (leaves false t))
