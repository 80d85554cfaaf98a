-- Results of an expression that is the whole path.
use Rattle.std.specs.Prelude.{List, [], ◌∷◌, Option}
use Rattle.std.specs.Option.{option_map_or}
use Rattle.jsonb_doc.specs.Answer.{Outcome, and_then}
use Rattle.jsonb_doc.specs.Arithmetic.{Operation}
use Rattle.jsonb_doc.specs.Number.{Number}
use Rattle.jsonb_doc.specs.Tree as tree
use Rattle.jsonb_doc.specs.Tree.{Tree}
use Rattle.jsonb.specs.Compare.{Truth, pair_truth}
use Rattle.jsonb.specs.Meaning.{operand_values, truth, truth_item, predicate}
use Rattle.jsonb.specs.PathArithmetic.{as_list, two_numbers}
use Rattle.jsonb.specs.PathTree.{BinaryOp, starts_with_op, whole_expression, Expression, binary}
use Rattle.jsonb.specs.Values.{Value}
use Rattle.jsonb.specs.declared.selector.document.Mode.{Mode}

-- a number as a list of one item
abbrev pub number_list : Outcome Number → Outcome (List Tree)
number_list outcome = as_list tree.number outcome

-- a three-valued result as a list of one item
abbrev pub truth_list : Outcome Truth → Outcome (List Tree)
truth_list outcome = as_list truth_item outcome

-- whether the right string begins the left one
abbrev pub starts_with_truth : Value → Value → Truth
starts_with_truth a b = pair_truth starts_with_op a b

-- the values of both operands first, then the result
abbrev pub calculation : Operation → Outcome (List Value) → Outcome (List Value) → Outcome (List Tree)
calculation op left right = and_then left (λ ls. and_then right (two_numbers op ls))

-- the list of a binary expression, by the operation of its operator
abbrev pub binary_meaning : Mode → Option Operation → BinaryOp → Expression → Expression → Tree → Outcome (List Tree)
binary_meaning mode arith op l r top = option_map_or
    (λ o. and_then (operand_values mode l top top) (λ ls. and_then (operand_values mode r top top) (two_numbers o ls)))
    arith (as_list truth_item (truth mode (binary op l r) top top))

-- the result of an expression as a predicate
abbrev pub expression_predicate : Mode → Expression → Tree → Outcome Truth
expression_predicate mode e top = predicate mode (whole_expression e ∷ []) top
