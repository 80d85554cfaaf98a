-- Arithmetic of an expression that is the whole path.
use Rattle.std.specs.Prelude.{List, [], ◌∷◌, Option, Some, None, Ok, Err}
use Rattle.jsonb_doc.specs.Answer.{Outcome, and_then, try_flat_map}
use Rattle.jsonb_doc.specs.Arithmetic as arith
use Rattle.jsonb_doc.specs.Arithmetic.{Operation, calculated, negated}
use Rattle.jsonb_doc.specs.declared.error.Error.TheVariants.{InvalidJsonPath}
use Rattle.jsonb_doc.specs.Number.{Number}
use Rattle.jsonb_doc.specs.Tree as tree
use Rattle.jsonb_doc.specs.Tree.{Tree}
use Rattle.jsonb.specs.PathTree.{BinaryOp, add, subtract, multiply, divide, modulo, UnaryOp, plus, minus}
use Rattle.jsonb.specs.Values.{Value, number}

-- The operation of an operator, if it is arithmetic.
abbrev pub operation : BinaryOp → Option Operation
operation add = Some arith.add
operation subtract = Some arith.subtract
operation multiply = Some arith.multiply
operation divide = Some arith.divide
operation modulo = Some arith.modulo
operation _ = None

-- The value as a list of one item.
abbrev pub as_list : {A : Type 0} → (A → Tree) → Outcome A → Outcome (List Tree)
as_list item outcome = and_then outcome (λ x. Ok (item x ∷ []))

-- The result of two operands, of one number each.
abbrev pub two_numbers : Operation → List Value → List Value → Outcome (List Tree)
two_numbers op (number m ∷ []) (number n ∷ []) = as_list tree.number (calculated op m n)
two_numbers op _ _ = Err InvalidJsonPath

-- The numbers that the values are; another value is an error.
abbrev pub all_numbers : List Value → Outcome (List Number)
all_numbers [] = Ok []
all_numbers (number n ∷ rest) = and_then (all_numbers rest) (λ ns. Ok (n ∷ ns))
all_numbers (value ∷ rest) = Err InvalidJsonPath

-- The number with a sign.
abbrev pub signed_number : UnaryOp → Number → Outcome (List Tree)
signed_number plus n = Ok (tree.number n ∷ [])
signed_number minus n = as_list tree.number (negated n)

-- Each value with a sign: first all have to be numbers, then the results are computed from left to right.
abbrev pub each_signed : UnaryOp → List Value → Outcome (List Tree)
each_signed op values = and_then (all_numbers values) (try_flat_map (signed_number op))
