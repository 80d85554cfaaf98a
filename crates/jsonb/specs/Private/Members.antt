-- Paths that name one member at most.
use Rattle.std.specs.Prelude.{ℕ, Bool, true, false, ◌&&◌, List, [], ◌∷◌, Option, Some, None}
use Rattle.jsonb.specs.PathTree.{Step, root, current, dot_field, colon_field, object_field}

-- `$`, `@` or the name of a field
abbrev pub is_member : Step → Bool
is_member root = true
is_member current = true
is_member (dot_field name) = true
is_member (colon_field name) = true
is_member (object_field name) = true
is_member _ = false

abbrev pub are_members : List Step → Bool
are_members [] = true
are_members (s ∷ ss) = is_member s && are_members ss

-- the name of a path that is `$` and a name
abbrev pub root_name : List Step → Option (List ℕ)
root_name (root ∷ dot_field name ∷ []) = Some name
root_name (root ∷ colon_field name ∷ []) = Some name
root_name (root ∷ object_field name ∷ []) = Some name
root_name _ = None
