-- The names that a tree has: as keys, as elements, or as the root itself.
use Rattle.std.specs.Prelude.{ℕ, Bool, false, List}
use Rattle.std.specs.List.{list_any, list_all}
use Rattle.std.specs.Str.{bytes_eq}
use Rattle.jsonb_doc.specs.Tree.{Tree, text, array, object, elements, keys}

-- Whether the tree is this string.
abbrev pub is_text : List ℕ → Tree → Bool
is_text name (text s) = bytes_eq s name
is_text name _ = false

-- Whether the string is a key of the object, an element of the array, or the root itself.
abbrev pub has_text : List ℕ → Tree → Bool
has_text name (object ps) = list_any (λ key. bytes_eq key name) (keys ps)
has_text name (array ts) = list_any (is_text name) (elements ts)
has_text name t = is_text name t

-- Whether the tree has each of the names.
abbrev pub has_all : List (List ℕ) → Tree → Bool
has_all names t = list_all (λ name. has_text name t) names

-- Whether the tree has one of the names.
abbrev pub has_any : List (List ℕ) → Tree → Bool
has_any names t = list_any (λ name. has_text name t) names
