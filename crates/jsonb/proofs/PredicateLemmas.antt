-- What an expression says as a predicate, by its kind.
use Rattle.jsonb.proofs.Common.{◌≡◌, List, [], ◌∷◌, ◌++◌, Option, Some, None, Ok, Err, refl, Outcome, and_then, try_flat_map, Operation, negated, Number, Tree, BinaryOp, UnaryOp, plus, minus, Expression, value, binary, exists, operation, all_numbers, signed_number, each_signed, number_list, truth_list, expression_predicate, calculation, Value, Truth, operand_values, truth, expression_meaning, list_truth, Mode, arith}

-- what a list says, and what is run for its error alone
abbrev said : List Tree → Outcome Truth
said ts = Ok (list_truth ts)

abbrev pub nothing_said : List Tree → Outcome Truth
nothing_said ts = Ok None

-- arithmetic says nothing, every other operator its truth
abbrev pub binary_predicate : Mode → Option Operation → BinaryOp → Expression → Expression → Tree → Outcome Truth
binary_predicate mode (Some arithmetic) op l r top = and_then
    (calculation arithmetic (operand_values mode l top top) (operand_values mode r top top)) nothing_said
binary_predicate mode None op l r top = truth mode (binary op l r) top top

abbrev pub predicate_of : Mode → Expression → Tree → Outcome Truth
predicate_of mode (binary op l r) top = binary_predicate mode (operation op) op l r top
predicate_of mode (exists steps) top = truth mode (exists steps) top top
predicate_of mode (value l) top = Ok None
predicate_of mode e top = and_then (expression_meaning mode e top) nothing_said

-- a result is that of its list
truth_said : (o : Outcome Truth) → and_then (truth_list o) said ≡ o
truth_said o = grind arith

-- numbers say nothing
number_said : (o : Outcome Number) → and_then (number_list o) said ≡ and_then (number_list o) nothing_said
number_said o = grind arith

calculation_said : (op : Operation) (l r : Outcome (List Value)) → and_then (calculation op l r) said ≡ and_then (calculation op l r) nothing_said
calculation_said op l r = grind (arith, number_said)

-- the numbers after signs: the first of them decides that no result is alone
front_said : (o : Outcome Number) (back : Outcome (List Tree)) → and_then (and_then (number_list o) (λ front. and_then back (λ ts. Ok (front ++ ts)))) said
    ≡ and_then (and_then (number_list o) (λ front. and_then back (λ ts. Ok (front ++ ts)))) nothing_said
front_said o back = grind arith

joined_said : (op : UnaryOp) (ns : List Number)
    → and_then (try_flat_map (signed_number op) ns) said ≡ and_then (try_flat_map (signed_number op) ns) nothing_said
joined_said op [] = refl
joined_said plus (n ∷ ns) = front_said (Ok n) (try_flat_map (signed_number plus) ns)
joined_said minus (n ∷ ns) = front_said (negated n) (try_flat_map (signed_number minus) ns)

signs_said : (op : UnaryOp) (o : Outcome (List Number))
    → and_then (and_then o (try_flat_map (signed_number op))) said ≡ and_then (and_then o (try_flat_map (signed_number op))) nothing_said
signs_said op (Ok ns) = joined_said op ns
signs_said op (Err e) = refl

unary_said : (op : UnaryOp) (o : Outcome (List Value)) → and_then (and_then o (each_signed op)) said ≡ and_then (and_then o (each_signed op)) nothing_said
unary_said op (Ok vs) = signs_said op (all_numbers vs)
unary_said op (Err e) = refl

pub predicate_by_cases : (mode : Mode) (e : Expression) (top : Tree) → expression_predicate mode e top ≡ predicate_of mode e top
predicate_by_cases mode e top = grind (arith, unary_said, truth_said, calculation_said)
