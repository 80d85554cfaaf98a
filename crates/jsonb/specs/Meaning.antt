-- The meaning of a path on a tree: a list of items, or the first error.
use Rattle.std.specs.Prelude.{◌≡◌, ◌&&◌, ◌||◌, true, List, [], ◌∷◌, map, flat_map, slice_get, Option, Some, None, is_some, option_map, unwrap_or, Ok, Err, if◌then◌else◌}
use Rattle.std.specs.Option.{ok_or, option_map_or}
use Rattle.jsonb_doc.specs.Answer.{Outcome, and_then, try_flat_map}
use Rattle.jsonb_doc.specs.declared.error.Error.TheVariants.{InvalidJsonPath}
use Rattle.jsonb_doc.specs.Payload.{Form}
use Rattle.jsonb_doc.specs.Format.{Decodes}
use Rattle.jsonb_doc.specs.Tree as tree
use Rattle.jsonb_doc.specs.Tree.{Tree}
use Rattle.jsonb_raw.specs.Arrays.{array_values}
use Rattle.jsonb.specs.PathTree.{raw, and_op, or_op, Step, root, current, dot_wildcard, recursive_dot_wildcard, bracket_wildcard, dot_field, colon_field, object_field, array_indices, filter, whole_expression, Steps, no_steps, step, Expression, paths, value, binary, unary, exists, steps_of}
use Rattle.jsonb.specs.Values.{Value, values_of_item, literal_value, literal_item}
use Rattle.jsonb.specs.Compare.{Truth, compare, joined_truth}
use Rattle.jsonb.specs.PathArithmetic.{operation, two_numbers, each_signed, as_list}
use Rattle.jsonb.specs.Preorder.{preorder}
use Rattle.jsonb.specs.ItemSteps.{values_of, list_or, field_step, picked}
use Rattle.jsonb.specs.declared.selector.document.Mode.{Mode}

-- The item, if the filter is true.
abbrev pub filtered : Tree → Truth → List Tree
filtered item (Some true) = item ∷ []
filtered item _ = []

-- The start of a path within an expression: the item if the path begins with `@`, otherwise the root.
abbrev pub start : Steps → Tree → Tree → Tree
start (step current rest) top item = item
start _ top item = top

-- The first item.
abbrev pub first_item : List Tree → Option Tree
first_item ts = slice_get ts 0

abbrev mutual
  -- One step, for one item of the document `top`.
  pub step_meaning : Mode → Step → Tree → Tree → Outcome (List Tree)
  step_meaning mode root top item = Ok (item ∷ [])
  step_meaning mode current top item = Ok (item ∷ [])
  step_meaning mode dot_wildcard top item = list_or mode [] (values_of item)
  step_meaning mode (recursive_dot_wildcard levels) top item = Ok (preorder levels 0 item)
  -- In lax mode another item than an array is its only element.
  step_meaning mode bracket_wildcard top item = list_or mode (item ∷ []) (array_values item)
  step_meaning mode (dot_field name) top item = field_step mode name item
  step_meaning mode (colon_field name) top item = field_step mode name item
  step_meaning mode (object_field name) top item = field_step mode name item
  step_meaning mode (array_indices entries) top item = list_or mode [] (option_map (picked entries) (array_values item))
  step_meaning mode (filter e) top item = and_then (truth mode e top item) (λ b. Ok (filtered item b))
  step_meaning mode (whole_expression e) top item = Err InvalidJsonPath

  -- One step after the other, each for all items.
  pub steps_meaning : Mode → Steps → Tree → List Tree → Outcome (List Tree)
  steps_meaning mode no_steps top items = Ok items
  steps_meaning mode (step s rest) top items =
      and_then (try_flat_map (step_meaning mode s top) items) (steps_meaning mode rest top)

  -- The values of an operand.
  pub operand_values : Mode → Expression → Tree → Tree → Outcome (List Value)
  operand_values mode (paths steps) top item =
      and_then (steps_meaning mode steps top (start steps top item ∷ [])) (λ ts. Ok (flat_map values_of_item ts))
  operand_values mode (value l) top item = Ok (literal_value l ∷ [])
  operand_values mode _ top item = Err InvalidJsonPath

  -- Whether an expression is true of an item.
  pub truth : Mode → Expression → Tree → Tree → Outcome Truth
  truth mode (binary and_op l r) top item =
      and_then (truth mode l top item) (λ a. and_then (truth mode r top item) (λ b. Ok (joined_truth ◌&&◌ a b)))
  truth mode (binary or_op l r) top item =
      and_then (truth mode l top item) (λ a. and_then (truth mode r top item) (λ b. Ok (joined_truth ◌||◌ a b)))
  -- Arithmetic is unknown, and its operands are not evaluated; a comparison takes the values of both operands first.
  truth mode (binary op l r) top item =
      if is_some (operation op) then Ok None else and_then (operand_values mode l top item)
      (λ ls. and_then (operand_values mode r top item) (λ rs. Ok (compare op ls rs)))
  truth mode (exists steps) top item =
      and_then (steps_meaning mode steps top (start steps top item ∷ [])) (λ ts. Ok (Some (is_some (first_item ts))))
  truth mode _ top item = Err InvalidJsonPath

-- ---- one expression as the whole path; the root is the item

-- A three-valued result as an item: unknown is null.
abbrev pub truth_item : Truth → Tree
truth_item b = unwrap_or (option_map tree.boolean b) tree.null

-- Of a literal an array of it; for a document as a literal see `Means`. Of an arithmetic operator, which takes the
-- values of both operands first, a number; of another expression a three-valued result. A path alone has none.
abbrev pub expression_meaning : Mode → Expression → Tree → Outcome (List Tree)
expression_meaning mode (value l) top =
    ok_or (option_map (λ t. tree.array (tree.trees_of (t ∷ [])) ∷ []) (literal_item l)) InvalidJsonPath
expression_meaning mode (unary op e) top = and_then (operand_values mode e top top) (each_signed op)
expression_meaning mode (binary op l r) top = option_map_or
    (λ o. and_then (operand_values mode l top top) (λ ls. and_then (operand_values mode r top top) (two_numbers o ls)))
    (operation op) (as_list truth_item (truth mode (binary op l r) top top))
expression_meaning mode e top = as_list truth_item (truth mode e top top)

-- ---- whole paths

-- An expression among several steps, which is a filter.
abbrev pub as_filter : Step → Step
as_filter (whole_expression e) = filter e
as_filter s = s

-- The list of a path on a tree, or its first error.
abbrev pub meaning : Mode → List Step → Tree → Outcome (List Tree)
meaning mode (whole_expression e ∷ []) top = expression_meaning mode e top
meaning mode (current ∷ rest) top = Err InvalidJsonPath
meaning mode path top = steps_meaning mode (steps_of (map as_filter path)) top (top ∷ [])

-- Holds if the path has this outcome on the tree; that of a single document is the tree that its bytes decode to.
abbrev pub Means : Form → Mode → List Step → Tree → Outcome (List Tree) → Type 0
Means form mode (whole_expression (value (raw document)) ∷ []) top outcome =
    (t : Tree) × Decodes form document t × (outcome ≡ Ok (t ∷ []))
Means form mode path top outcome = outcome ≡ meaning mode path top

-- ---- what a path says as a predicate

-- The three-valued result that a list of one item is.
abbrev pub list_truth : List Tree → Truth
list_truth (tree.boolean b ∷ []) = Some b
list_truth _ = None

-- The result of a path as a predicate, and `None` if it is a literal or not a single expression, or unknown.
abbrev pub predicate : Mode → List Step → Tree → Outcome Truth
predicate mode (whole_expression (value l) ∷ []) top = Ok None
predicate mode (whole_expression e ∷ []) top = and_then (expression_meaning mode e top) (λ ts. Ok (list_truth ts))
predicate mode _ top = Ok None
