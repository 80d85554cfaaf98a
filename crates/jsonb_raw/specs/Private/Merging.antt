-- The pairs of two objects.
use Rattle.std.specs.Prelude.{ℕ, List}
use Rattle.std.specs.List.{fold}
use Rattle.jsonb_doc.specs.Tree.{Tree}
use Rattle.jsonb_doc.specs.ObjectBuilder.{insert_pair}

-- the members of both, sorted by key, with the second's value for a shared key
abbrev pub merged : List (List ℕ × Tree) → List (List ℕ × Tree) → List (List ℕ × Tree)
merged ps qs = fold (λ all q. insert_pair q.0 q.1 all) ps qs
