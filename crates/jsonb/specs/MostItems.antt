-- At most how many items the evaluation of a path lists, and how many values it compares: a number that is known
-- before.
use Rattle.std.specs.Prelude.{ℕ, ◌+◌, ◌*◌, ◌/◌, ◌-◌, ◌^◌, min, length, Bool, true, false, List, if◌then◌else◌}
use Rattle.std.specs.List.{list_all}
use Rattle.jsonb_doc.specs.Depth.{deepest}
use Rattle.jsonb_doc.specs.Tree.{Tree}
use Rattle.jsonb.specs.PathText.{joins}
use Rattle.jsonb.specs.PathTree.{Entry, single, slice, BinaryOp, Step, current, dot_wildcard, recursive_dot_wildcard, bracket_wildcard, array_indices, filter, whole_expression, Steps, no_steps, step, Expression, paths, value, binary, unary, exists, steps_of}
use Rattle.jsonb.specs.declared.selector.most_items.DocumentSize.{DocumentSize}
use Rattle.jsonb.specs.declared.selector.most_items.ListBound.{ListBound}

-- A number, and 2 ^ 64 - 1 for a larger one.
abbrev pub capped : ℕ → ℕ
capped n = min n (2 ^ 64 - 1)

-- The list of the root alone.
abbrev pub root_list : DocumentSize → ListBound
root_list size = record { items = 1; below = size.items }

abbrev pub is_single : Entry → Bool
is_single (single place) = true
is_single (slice (first, last)) = false

-- The list of the elements at `count` subscripts; each selects one element of an array, or many.
abbrev pub picked_list : Bool → ℕ → ListBound → ListBound
picked_list one count l =
    record { items = capped ((if one then l.items else l.below) * count); below = capped (l.below * count) }

-- The list after a step. An item is below at most as many items as the document has levels.
abbrev pub after : DocumentSize → Step → ListBound → ListBound
after size dot_wildcard l = record { items = l.below; below = l.below }
after size bracket_wildcard l = record { items = l.below; below = l.below }
after size (recursive_dot_wildcard levels) l = record { items = l.below; below = capped (l.below * size.levels) }
after size (array_indices entries) l = picked_list (list_all is_single entries) (length entries) l
after size s l = l

abbrev pub after_steps : DocumentSize → Steps → ListBound → ListBound
after_steps size no_steps l = l
after_steps size (step s rest) l = after_steps size rest (after size s l)

-- The items at which a path within an expression starts: those of the list, or as often the root.
abbrev pub start_list : DocumentSize → Steps → ListBound → ListBound
start_list size (step current rest) l = l
start_list size _ l = record { items = l.items; below = capped (l.items * size.items) }

-- The values of an operand, of all items of a list together.
abbrev pub most_values : DocumentSize → Expression → ListBound → ℕ
most_values size (paths ss) l = (after_steps size ss (start_list size ss l)).below
most_values size (value literal) l = l.items
most_values size _ l = 0

-- The pairs of values: those of all items on one side, with those of one item on the other.
abbrev pub most_pairs : DocumentSize → Expression → Expression → ListBound → ℕ
most_pairs size a b l = min
    (capped (most_values size a l * most_values size b (root_list size)))
    (capped (most_values size a (root_list size) * most_values size b l))

-- The values that an operator takes, and their pairs; `&&` and `||` take none.
abbrev pub most_compared : DocumentSize → BinaryOp → Expression → Expression → ListBound → ℕ
most_compared size op a b l =
    if joins op then 0 else most_values size a l + (most_values size b l + most_pairs size a b l)

abbrev mutual
  -- The items that a step lists, and what its filter takes.
  pub step_items : DocumentSize → Step → ListBound → ℕ
  step_items size (filter e) l = l.items + expression_items size e l
  step_items size (whole_expression e) l = l.items + expression_items size e l
  step_items size s l = (after size s l).items

  pub steps_items : DocumentSize → Steps → ListBound → ℕ
  steps_items size no_steps l = 0
  steps_items size (step s rest) l = step_items size s l + steps_items size rest (after size s l)

  pub expression_items : DocumentSize → Expression → ListBound → ℕ
  expression_items size (paths ss) l = steps_items size ss (start_list size ss l)
  expression_items size (exists ss) l = steps_items size ss (start_list size ss l)
  expression_items size (value literal) l = 0
  expression_items size (unary op e) l = most_values size e l + expression_items size e l
  expression_items size (binary op a b) l =
      most_compared size op a b l + (expression_items size a l + expression_items size b l)

-- The size of a document: each item has an entry of 4 bytes.
abbrev pub document_size : List ℕ → Tree → DocumentSize
document_size bytes t = record { items = length bytes / 4; levels = capped (deepest t + 1) }

-- Those of the whole path: items of lists, values and pairs.
abbrev pub most_items : DocumentSize → List Step → ℕ
most_items size path = capped (steps_items size (steps_of path) (root_list size))
