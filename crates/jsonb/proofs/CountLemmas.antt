-- Counting the items of a path, expression by expression.
use Rattle.jsonb.proofs.Common.{◌≡◌, ℕ, ◌+◌, ◌<◌, List, ◌∷◌, length, get_or, drop, add-one, arith, drop-cons, capped, step_view, steps_view, Path}

-- one addition, and then another
pub grows_then : (a b c x y : ℕ) → capped b ≡ capped (a + x) → capped c ≡ capped (b + y) → capped c ≡ capped (a + (x + y))
grows_then a b c x y first second = omega arith

-- the steps that are left begin with this one
pub left_steps : (steps : List Path) (i : ℕ) (s : Path) → i < length steps → s ≡ get_or steps i s →
    steps_view (drop i steps) ≡ step_view s ∷ steps_view (drop (i + 1) steps)
left_steps steps i s short is = grind (arith, drop-cons, add-one)
