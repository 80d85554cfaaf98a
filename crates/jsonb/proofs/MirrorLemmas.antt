-- A comparison whose sides are exchanged.
use Rattle.jsonb.proofs.Common.{◌≡◌, List, [], ◌∷◌, map, flat_map, true, Bool, Option, Some, None, option_map, Ok, Err, refl, sym, ap, ◌∙◌, append-nil, if◌then◌else◌, ◌||◌, arith, ordering_reverse, Ordering, Outcome, and_then, Tree, BinaryOp, Expression, antisymmetric, Truth, value_order, truth_of_order, is_container, pair_truth, first_decisive, compare, Value, values_of_item, steps_meaning, truth, operand_values, mirrored, is_comparison, Mode}
use Rattle.jsonb.specs.PathTree as math
use Rattle.jsonb.specs.Values.{null}
use Rattle.jsonb.proofs.ComparedLemmas.{compares_member}
use Rattle.jsonb.proofs.KeptLemmas.{comparison_is}

-- the sides do not matter for whether one is a container
either : (a b : Bool) → (a || b) ≡ (b || a)
either a b = grind arith

abbrev by_order : BinaryOp → Value → Value → Truth
by_order op a b = if is_container a || is_container b then None else truth_of_order op (value_order a b)

-- two operators that compare orders, each with its sides exchanged as the other one
record AreMirrors (a b : Value) (o : Option Ordering) (op turned : BinaryOp) : Type 0 where
  compares : is_comparison op ≡ true
  turned_compares : is_comparison turned ≡ true
  pair : pair_truth op a b ≡ by_order op a b
  turned_pair : pair_truth turned b a ≡ by_order turned b a
  met : truth_of_order op (option_map ordering_reverse o) ≡ truth_of_order turned o

are_mirrors : (a b : Value) (o : Option Ordering) (op turned : BinaryOp) → mirrored op ≡ Some turned → AreMirrors a b o op turned
are_mirrors a b o op turned h = grind arith

pair-mirrored : (op turned : BinaryOp) (a b : Value) → mirrored op ≡ Some turned → pair_truth op a b ≡ pair_truth turned b a
pair-mirrored op turned a b h = grind (arith, either, are_mirrors, antisymmetric)

-- the results of the pairs, for one value on the left or on the right
pairs-mirrored : (op turned : BinaryOp) (l : Value) (rs : List Value) → mirrored op ≡ Some turned
    → map (λ r. pair_truth op l r) rs ≡ flat_map (λ r. map (λ z. pair_truth turned r z) (l ∷ [])) rs
pairs-mirrored op turned l [] h = refl
pairs-mirrored op turned l (r ∷ rs) h = λ i. pair-mirrored op turned l r h i ∷ pairs-mirrored op turned l rs h i

-- a comparison whose left side is a literal, and whose right side is a member
pub member_mirrored : (mode : Mode) (op turned : BinaryOp) (l : Expression) (v : Value) (steps : math.Steps) (top t : Tree) → mirrored op ≡ Some turned
    → operand_values mode l top t ≡ Ok (v ∷ []) → truth mode (math.binary op l (math.paths (math.step math.current steps))) top t
    ≡ and_then (steps_meaning mode steps top (t ∷ [])) (λ ts. Ok (compare turned (flat_map values_of_item ts) (v ∷ [])))
member_mirrored mode op turned l v steps top t h is =
    let member = math.paths (math.step math.current steps) in
    let k = are_mirrors null null None op turned h in
    comparison_is mode op l member top t k.compares ∙ ap (λ o. and_then o (λ ls. and_then (operand_values mode member top t) (λ rs. Ok (compare op ls rs)))) is
    ∙ exchanged (operand_values mode member top t)
    ∙ ap (λ o. and_then (operand_values mode member top t) (λ ls. and_then o (λ rs. Ok (compare turned ls rs)))) (sym is)
    ∙ sym (comparison_is mode turned member l top t k.turned_compares) ∙ compares_member mode turned steps l v top t k.turned_compares is
  where
    exchanged : (o : Outcome (List Value)) → and_then o (λ rs. Ok (compare op (v ∷ []) rs)) ≡ and_then o (λ ls. Ok (compare turned ls (v ∷ [])))
    exchanged (Ok rs) = ap Ok ((ap first_decisive (append-nil (map (λ r. pair_truth op v r) rs) ∙ pairs-mirrored op turned v rs h)))
    exchanged (Err e) = refl
