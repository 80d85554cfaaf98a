-- The kind bytes of keys, which are the ranks of trees.
use Rattle.std.specs.Prelude.{◌≡◌, ℕ}
use Rattle.jsonb_doc.specs.Tree as spec
use Rattle.jsonb_doc.specs.Tree.{Tree}
use Rattle.jsonb_doc.specs.Order.{rank}

-- the type of a null or a Boolean
abbrev pub IsLiteralKind : Tree → ℕ → Type 0
IsLiteralKind spec.null kind = kind ≡ rank spec.null
IsLiteralKind (spec.boolean b) kind = kind ≡ rank (spec.boolean b)
IsLiteralKind _ kind = ⊥
