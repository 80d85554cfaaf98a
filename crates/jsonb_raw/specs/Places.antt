-- The location of a key path in a tree, and the value there.
use Rattle.std.specs.Prelude.{ℕ, suc, ℤ, pos, negsuc, ◌-◌, nat_lt, List, [], ◌∷◌, length, slice_get, Option, Some, None, unwrap_or, option_map, option_and_then, position, if◌then◌else◌}
use Rattle.std.specs.Str.{bytes_eq}
use Rattle.std.specs.Fmt.{signed_decimal}
use Rattle.jsonb_doc.specs.Tree.{Tree, array, object, elements, keys, children_of}
use Rattle.jsonb_keypath.specs.KeyPathGrammar.{Key, index, quoted_name, unquoted_name}

-- The elements of an array or the values of an object, in stored order; another tree has none.
abbrev pub children : Tree → List Tree
children t = unwrap_or (children_of t) []

-- The position of the element at an index in a list of this length: from the end if negative.
abbrev pub index_position : ℕ → ℤ → Option ℕ
index_position len (pos n) = if nat_lt n len then Some n else None
index_position len (negsuc n) = if nat_lt n len then Some (len - suc n) else None

-- The key of an object that a step denotes: a name itself, an index in decimal.
abbrev pub asked_key : Key → List ℕ
asked_key (index i) = signed_decimal i
asked_key (quoted_name text) = text
asked_key (unquoted_name text) = text

-- The position of the child that a step selects.
abbrev pub child_position : Key → Tree → Option ℕ
child_position (index i) (array ts) = index_position (length (elements ts)) i
child_position step (object ps) = position (λ key. bytes_eq key (asked_key step)) (keys ps)
child_position _ _ = None

-- The child positions that the steps select, one after the other, from the root on.
abbrev pub location : List Key → Tree → Option (List ℕ)
location [] t = Some []
location (step ∷ steps) t =
    option_and_then (λ n. option_map (λ ns. n ∷ ns) (option_and_then (location steps) (slice_get (children t) n)))
    (child_position step t)

-- The tree at a location.
abbrev pub tree_at : List ℕ → Tree → Option Tree
tree_at [] t = Some t
tree_at (n ∷ ns) t = option_and_then (tree_at ns) (slice_get (children t) n)

-- The tree at the location of the steps.
abbrev pub tree_at_steps : List Key → Tree → Option Tree
tree_at_steps steps t = option_and_then (λ ns. tree_at ns t) (location steps t)
