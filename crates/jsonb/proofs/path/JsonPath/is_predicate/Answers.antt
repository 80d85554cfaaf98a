use Rattle.jsonb.proofs.Lemmas.{rules, ◌≡◌, ◌≤◌, List, [], ◌∷◌, length, false, refl, arith, Step, whole_expression, is_predicate, step_view, steps_view, Path}
use Rattle.jsonb.proofs.path.JsonPath.is_predicate.Goals as goal

-- a path of two or more steps is not one expression
longer : (steps : List Path) → 2 ≤ length steps → false ≡ is_predicate (steps_view steps)
longer [] h = refl
longer (s ∷ []) h = absurd (omega arith)
longer (s ∷ t ∷ rest) h = go (step_view s)
  where
    go : (first : Step) → false ≡ is_predicate (first ∷ steps_view (t ∷ rest))
    go (whole_expression e) = refl
    go _ = refl

pub returns-in_default-2 : goal.returns-in_default-2
returns-in_default-2 c = search (rules, longer)
