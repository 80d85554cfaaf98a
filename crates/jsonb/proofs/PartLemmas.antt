-- The nodes of a path, as they are dropped one by one.
use Rattle.jsonb.proofs.Common.{◌≡◌, ℕ, zero, suc, ◌+◌, ◌<◌, ◌≤◌, List, [], ◌∷◌, ◌++◌, Option, None, Some, IfSome, length, get_or, take, drop, Vec, Box, Global, refl, ap, arith, drop-cons, take-append-drop, Step, filter, Expression, binary, steps_of, step_view, steps_view, left_of, below, step_parts, steps_parts, expression_parts, parts, remaining, BinaryOperator, Expr, Path, Remaining}
use Rattle.jsonb.specs.declared.path.Expr.TheVariants as expr
use Rattle.jsonb.proofs.PathNodes.{paths_is, binary_is}

-- ---- no part is nothing

pub some_step_parts : (s : Step) → 0 < step_parts s
some_step_parts (filter e) = omega arith
some_step_parts _ = omega arith

-- ---- lists of steps, and what holds them

abbrev pub row_parts : List Path → ℕ
row_parts ss = steps_parts (steps_of (steps_view ss))

pub row_parts-last : (ss : List Path) (s : Path) → row_parts (ss ++ s ∷ []) ≡ row_parts ss + step_parts (step_view s)
row_parts-last [] s = omega arith
row_parts-last (t ∷ ss) s = let rest = row_parts-last ss s in omega arith

row_parts-append : (ss ts : List Path) → row_parts (ss ++ ts) ≡ row_parts ss + row_parts ts
row_parts-append [] ts = omega arith
row_parts-append (s ∷ ss) ts = let rest = row_parts-append ss ts in omega arith

pub parts-paths : (steps : Vec Path Global) → parts (expr.Paths steps) ≡ 1 + row_parts steps.items
parts-paths steps = ap expression_parts (paths_is _ steps refl)

pub parts-binary : (op : BinaryOperator) (l r : Box Expr Global) → parts (expr.BinaryOp op l r) ≡ 1 + parts l.value + parts r.value
parts-binary op l r = ap expression_parts (binary_is _ op l r refl)

-- ---- the loop

-- nothing, or one more than there is to release
abbrev pub still : Option Remaining → ℕ
still None = 0
still (Some r) = 1 + remaining r

pub less_still : (before after : Option Remaining) (r : Remaining) → before ≡ Some r → IfSome after (λ left. remaining left < remaining r)
    → still after < still before
less_still before after r is less = grind arith

-- ---- a step among others

pub step_parts-among : (ss : List Path) (i : ℕ) (s : Path) → i < length ss → s ≡ get_or ss i s → step_parts (step_view s) ≤ row_parts ss
step_parts-among ss i s short is = grind (arith, row_parts-append (take i ss) (drop i ss), take-append-drop, drop-cons)

-- ---- a chain, some left sides below

left_parts : (e : Expression) → expression_parts (left_of e) ≤ expression_parts e
left_parts (binary op left right) = omega arith
left_parts _ = omega arith

pub below_parts : (n : ℕ) (e : Expression) → expression_parts (below n e) ≤ expression_parts e
below_parts zero e = omega arith
below_parts (suc n) e = omega (arith, below_parts n (left_of e), left_parts e)
