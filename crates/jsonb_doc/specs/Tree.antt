-- A JSON document as a mathematical value. A string is its UTF-8 bytes.
use Rattle.std.specs.Prelude.{ℕ, Bool, List, [], ◌∷◌, length, Option, Some, None, if◌then◌else◌}
use Rattle.std.specs.Option.{option_and_then}
use Rattle.std.specs.Str.{bytes_eq}
use Rattle.jsonb_doc.specs.Number.{Number}
use Rattle.jsonb_doc.specs.Extension.{Extension}

mutual
  pub data Tree : Type 0 where
    null : Tree
    boolean : Bool → Tree
    number : Number → Tree
    text : List ℕ → Tree
    extension : Extension → Tree
    array : Trees → Tree
    object : Pairs → Tree

  -- The elements of an array, in order.
  pub data Trees : Type 0 where
    no_trees : Trees
    tree : Tree → Trees → Trees

  -- The keys of an object with their values, in stored order.
  pub data Pairs : Type 0 where
    no_pairs : Pairs
    pair : List ℕ → Tree → Pairs → Pairs

abbrev pub elements : Trees → List Tree
elements no_trees = []
elements (tree t ts) = t ∷ elements ts

abbrev pub count : Trees → ℕ
count ts = length (elements ts)

abbrev pub keys : Pairs → List (List ℕ)
keys no_pairs = []
keys (pair key value ps) = key ∷ keys ps

abbrev pub values : Pairs → Trees
values no_pairs = no_trees
values (pair key value ps) = tree value (values ps)

-- ---- as lists

abbrev pub trees_of : List Tree → Trees
trees_of [] = no_trees
trees_of (t ∷ ts) = tree t (trees_of ts)

abbrev pub members : Pairs → List (List ℕ × Tree)
members no_pairs = []
members (pair key value ps) = (key, value) ∷ members ps

abbrev pub pairs_of : List (List ℕ × Tree) → Pairs
pairs_of [] = no_pairs
pairs_of (p ∷ ps) = pair p.0 p.1 (pairs_of ps)

-- ---- the parts of a container

-- The elements of an array.
abbrev pub trees_in : Tree → Option Trees
trees_in (array ts) = Some ts
trees_in _ = None

-- The pairs of an object.
abbrev pub pairs_in : Tree → Option Pairs
pairs_in (object ps) = Some ps
pairs_in _ = None

-- An array's elements, or an object's values, in stored order.
abbrev pub children_of : Tree → Option (List Tree)
children_of (array ts) = Some (elements ts)
children_of (object ps) = Some (elements (values ps))
children_of _ = None

-- The value of a key.
abbrev pub value_under : List ℕ → Pairs → Option Tree
value_under name no_pairs = None
value_under name (pair key value ps) = if bytes_eq key name then Some value else value_under name ps

-- The value of a key of an object.
abbrev pub field_of : List ℕ → Tree → Option Tree
field_of name t = option_and_then (value_under name) (pairs_in t)
