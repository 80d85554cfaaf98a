-- Steps that depend on one item only.
use Rattle.std.specs.Prelude.{ℕ, pos, int_le, Bool, ◌&&◌, List, [], ◌∷◌, filter, filter_map, flat_map, slice_get, length, option_map, Option, Some, None, Ok, Err}
use Rattle.std.specs.Ordering.{int_eq}
use Rattle.std.specs.List.{range_with_len}
use Rattle.jsonb_doc.specs.Answer.{Outcome}
use Rattle.jsonb_doc.specs.declared.error.Error.TheVariants.{StrictPath}
use Rattle.jsonb_doc.specs.Tree as tree
use Rattle.jsonb_doc.specs.Tree.{Tree, pairs_in, field_of}
use Rattle.jsonb.specs.PathTree.{Entry, single, slice}
use Rattle.jsonb.specs.Positions.{position}
use Rattle.jsonb.specs.declared.selector.document.Mode.{Mode}
use Rattle.jsonb.specs.declared.selector.document.Mode.TheVariants.{Lax, Strict}

-- The values of an object, in the order of its keys.
abbrev pub values_of : Tree → Option (List Tree)
values_of t = option_map (λ ps. tree.elements (tree.values ps)) (pairs_in t)

-- The list; without one the step does not apply to the item: lax mode returns the other list, and strict mode fails.
abbrev pub list_or : Mode → List Tree → Option (List Tree) → Outcome (List Tree)
list_or mode otherwise (Some ts) = Ok ts
list_or Lax otherwise None = Ok otherwise
list_or Strict otherwise None = Err StrictPath

-- The value of a key of an object.
abbrev pub field_step : Mode → List ℕ → Tree → Outcome (List Tree)
field_step mode name t = list_or mode [] (option_map (λ u. u ∷ []) (field_of name t))

-- Whether a subscript denotes a position of an array of this length.
abbrev pub is_meant : ℕ → Entry → ℕ → Bool
is_meant length (single place) k = int_eq (pos k) (position length place)
is_meant length (slice (first, last)) k =
    int_le (position length first) (pos k) && int_le (pos k) (position length last)

-- The elements at the positions that a subscript denotes, ascending, and those of one subscript after the other.
abbrev pub picked_by : Entry → List Tree → List Tree
picked_by entry ts = filter_map (slice_get ts) (filter (is_meant (length ts) entry) (range_with_len 0 (length ts)))

abbrev pub picked : List Entry → List Tree → List Tree
picked entries ts = flat_map (λ entry. picked_by entry ts) entries
