-- The values of operands, for comparisons and arithmetic.
use Rattle.std.specs.Prelude.{ℕ, Bool, List, [], ◌∷◌, flat_map, slice_get, Option, Some, None, option_and_then, unwrap_or}
use Rattle.jsonb_doc.specs.Number.{Number}
use Rattle.jsonb_doc.specs.View.{number_view}
use Rattle.jsonb_doc.specs.Tree as tree
use Rattle.jsonb_doc.specs.Tree.{Tree}
use Rattle.jsonb_raw.specs.Arrays.{as_elements}
use Rattle.jsonb.specs.PathTree as path
use Rattle.jsonb.specs.PathTree.{Literal}

-- A scalar, or a container, which is not compared.
pub data Value : Type 0 where
  null container : Value
  boolean : Bool → Value
  number : Number → Value
  text : List ℕ → Value

-- The value of an element, and of an item that is not an array; an extension has none, and arrays and objects are the
-- value `container`.
abbrev pub value_of_item : Tree → List Value
value_of_item tree.null = null ∷ []
value_of_item (tree.boolean b) = boolean b ∷ []
value_of_item (tree.number n) = number n ∷ []
value_of_item (tree.text bytes) = text bytes ∷ []
value_of_item (tree.extension x) = []
value_of_item _ = container ∷ []

-- The values of an item: of an array those of its elements.
abbrev pub values_of_item : Tree → List Value
values_of_item t = flat_map value_of_item (as_elements t)

-- The item that a literal is, unless it is a document.
abbrev pub literal_item : Literal → Option Tree
literal_item path.null = Some tree.null
literal_item (path.boolean b) = Some (tree.boolean b)
literal_item (path.number n) = Some (tree.number (number_view n))
literal_item (path.string bytes) = Some (tree.text bytes)
literal_item (path.raw document) = None

-- The value of a literal. A document, whatever its root, is not compared, like a container.
abbrev pub literal_value : Literal → Value
literal_value l = unwrap_or (option_and_then (λ t. slice_get (value_of_item t) 0) (literal_item l)) container
