-- Room for the keys of values, whose functions then do not fail because an allocation fails.
use Rattle.std.specs.Prelude.{◌+◌, ◌*◌, ◌≤◌, ℕ, length}
use Rattle.jsonb_doc.specs.Payload.{extension_payload}
use Rattle.jsonb_doc.specs.Tree.{Tree, text, extension, array, object}

-- Holds if a vector of this length and capacity has room for the key of the scalar. It does not hold for a container,
-- whose levels are kept in another vector.
abbrev pub HasKeyRoom : Tree → ℕ → ℕ → Type 0
HasKeyRoom (text s) len capacity = len + (2 * length s + 64) ≤ capacity
HasKeyRoom (extension x) len capacity = len + (length (extension_payload x) + 64) ≤ capacity
HasKeyRoom (array ts) len capacity = ⊥
HasKeyRoom (object ps) len capacity = ⊥
HasKeyRoom _ len capacity = len + 64 ≤ capacity
