-- What the type of an item says of its tree.
use Rattle.jsonb.proofs.Common.{◌≡◌, List, ℕ, flat_map, Option, Some, None, Result, IsOkAnd, SameOption, HasSpotsLeft, Locates, Tree, Error, Spot, SpotIter, any, array_values, values_of, values_of_item, value_of_item, append-nil, arith}
use Rattle.jsonb_doc.specs.Tree as tree
use Rattle.jsonb_doc.specs.declared.layout.EntryKind.TheVariants as kind

-- the elements of an array, and the values of an object, as lists
module _ (bytes : List ℕ) where
  pub elements_listed : (t : Tree) (r : Result (Option SpotIter) Error)
      → IsOkAnd r (λ found. SameOption (λ it ts. HasSpotsLeft bytes it (tree.elements ts)) found (tree.trees_in t))
      → IsOkAnd r (λ found. SameOption (HasSpotsLeft bytes) found (array_values t))
  elements_listed t r h = grind arith

  pub values_listed : (t : Tree) (r : Result (Option SpotIter) Error)
      → IsOkAnd r (λ found. SameOption (λ it ps. HasSpotsLeft bytes it (tree.elements (tree.values ps))) found (tree.pairs_in t))
      → IsOkAnd r (λ found. SameOption (HasSpotsLeft bytes) found (values_of t))
  values_listed t r h = grind arith

-- the values of an array, and of another item
pub values_of_array : (t : Tree) (ts : List Tree) → array_values t ≡ Some ts → values_of_item t ≡ flat_map value_of_item ts
values_of_array t ts is = grind arith

pub other_values : (t : Tree) → array_values t ≡ None → values_of_item t ≡ value_of_item t
other_values t is = rw is (append-nil (value_of_item t))

-- a string is not an array
pub text_values : (bytes : List ℕ) (spot : Spot) (t : Tree) → Locates bytes spot t → spot.kind ≡ kind.Text → values_of_item t ≡ value_of_item t
text_values bytes spot (tree.array ts) m is = let d = m.content any m.whole m.decodes in absurd (grind (arith, d.0, is))
text_values bytes spot t m is = append-nil (value_of_item t)
