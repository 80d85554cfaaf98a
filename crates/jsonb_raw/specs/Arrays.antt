-- Definitions of the functions on arrays.
use Rattle.std.specs.Prelude.{ℕ, suc, ◌-◌, min, ℤ, pos, negsuc, List, [], ◌∷◌, length, Option, option_map, unwrap_or}
use Rattle.std.specs.List.{insert}
use Rattle.jsonb_doc.specs.Tree.{Tree, array, elements, trees_of, trees_in}

-- The elements of an array.
abbrev pub array_values : Tree → Option (List Tree)
array_values t = option_map elements (trees_in t)

-- The number of elements of an array.
abbrev pub array_length : Tree → Option ℕ
array_length t = option_map length (array_values t)

-- The elements of an array; another tree counts as one element.
abbrev pub as_elements : Tree → List Tree
as_elements t = unwrap_or (array_values t) (t ∷ [])

-- The index that a position denotes in a list of this length: from the end if negative, and clamped to the range from 0
-- to the length.
abbrev pub insert_place : ℕ → ℤ → ℕ
insert_place len (pos n) = min n len
insert_place len (negsuc n) = len - suc n

-- The array with one more element, before the one at the index.
abbrev pub array_insert : ℤ → Tree → Tree → Tree
array_insert i value t = array (trees_of (insert (as_elements t) (insert_place (length (as_elements t)) i) value))
