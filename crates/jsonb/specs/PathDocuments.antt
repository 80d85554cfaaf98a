-- Documents among the literals of a path. Only paths that are built by hand have them.
use Rattle.std.specs.Prelude.{◌≡◌, Bool, false, not, List, is_some}
use Rattle.jsonb.specs.PathEquality.{SameStepsBut}
use Rattle.jsonb.specs.PathTree.{Literal, Step, steps_of}
use Rattle.jsonb.specs.Values.{literal_item}

-- Whether the literal is a document.
abbrev pub is_document : Literal → Bool
is_document l = not (is_some (literal_item l))

-- Holds if no literal of the path is a document.
abbrev pub HasNoDocument : List Step → Type 0
HasNoDocument path = SameStepsBut (λ l m. is_document l ≡ false) (steps_of path) (steps_of path)
