-- Equality of paths: the same nodes, with literals that are equal by value.
use Rattle.std.specs.Prelude.{◌≡◌, List, Option, Some}
use Rattle.std.specs.declared.cmp.Ordering.{Ordering}
use Rattle.std.specs.declared.cmp.Ordering.TheVariants.{Equal}
use Rattle.jsonb.specs.Compare.{value_order}
use Rattle.jsonb.specs.PathTree.{Literal, Step, filter, whole_expression, Steps, no_steps, step, Expression, paths, value, binary, unary, exists, steps_of}
use Rattle.jsonb.specs.Values.{literal_value}

-- The order of two literals, as values of operands. Literals of two types have none, nor has a document, not even with
-- itself.
abbrev pub literal_order : Literal → Literal → Option Ordering
literal_order l m = value_order (literal_value l) (literal_value m)

abbrev pub SameLiteral : Literal → Literal → Type 0
SameLiteral l m = literal_order l m ≡ Some Equal

-- Holds for steps, or expressions, that are the same, node by node, except that `Alike` holds for each two literals.
module _ (Alike : Literal → Literal → Type 0) where
  abbrev mutual
    pub SameStepBut : Step → Step → Type 0
    SameStepBut (filter e) (filter f) = SameExpressionBut e f
    SameStepBut (whole_expression e) (whole_expression f) = SameExpressionBut e f
    SameStepBut s t = s ≡ t

    pub SameStepsBut : Steps → Steps → Type 0
    SameStepsBut no_steps no_steps = Unit {0}
    SameStepsBut (step s ss) (step t ts) = SameStepBut s t × SameStepsBut ss ts
    SameStepsBut _ _ = ⊥

    pub SameExpressionBut : Expression → Expression → Type 0
    SameExpressionBut (paths ss) (paths ts) = SameStepsBut ss ts
    SameExpressionBut (value l) (value m) = Alike l m
    SameExpressionBut (binary op left right) (binary op' left' right') =
        (op ≡ op') × SameExpressionBut left left' × SameExpressionBut right right'
    SameExpressionBut (unary op e) (unary op' f) = (op ≡ op') × SameExpressionBut e f
    SameExpressionBut (exists ss) (exists ts) = SameStepsBut ss ts
    SameExpressionBut _ _ = ⊥

abbrev pub SamePath : List Step → List Step → Type 0
SamePath p q = SameStepsBut SameLiteral (steps_of p) (steps_of q)
