-- Definitions of the functions on the children of a document.
use Rattle.std.specs.Prelude.{ℕ, ℤ, Bool, not, List, filter, length, slice_get, Option, Some, None, option_map, option_and_then, unwrap_or, if◌then◌else◌}
use Rattle.std.specs.List.{find, remove}
use Rattle.std.specs.Option.{option_or}
use Rattle.std.specs.Str.{bytes_eq, str_eq_ignore_ascii_case}
use Rattle.jsonb_doc.specs.Tree.{Tree, array, object, elements, members, field_of, pairs_in, trees_of, pairs_of}
use Rattle.jsonb_raw.specs.Places.{index_position}
use Rattle.jsonb_raw.specs.Arrays.{array_values}
use Rattle.jsonb_raw.specs.Exists.{is_text}

-- The element at a position of an array.
abbrev pub element_at : ℕ → Tree → Option Tree
element_at i t = option_and_then (λ ts. slice_get ts i) (array_values t)

-- The value of a name, otherwise, ignoring ASCII case, of the first key that equals the name.
abbrev pub named_child : List ℕ → Bool → Tree → Option Tree
named_child name ignore_case t = option_or (field_of name t) (if ignore_case then option_map (λ p. p.1)
    (option_and_then (λ ps. find (λ p. str_eq_ignore_ascii_case p.0 name) (members ps)) (pairs_in t)) else None)

-- The array without the element at an index, counted from the end if negative.
abbrev pub without_index : ℤ → Tree → Option Tree
without_index i t = option_map
    (λ ts. array (trees_of (unwrap_or (option_map (remove ts) (index_position (length ts) i)) ts))) (array_values t)

-- The array without the strings equal to the name, or the object without the key.
abbrev pub without_name : List ℕ → Tree → Option Tree
without_name name (array ts) = Some (array (trees_of (filter (λ t. not (is_text name t)) (elements ts))))
without_name name (object ps) = Some (object (pairs_of (filter (λ p. not (bytes_eq p.0 name)) (members ps))))
without_name name _ = None
