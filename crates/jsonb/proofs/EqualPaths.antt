-- The derived equality of paths goes step by step.
use Rattle.jsonb.proofs.Common.{List, [], ◌∷◌, refl, Decides, pointwise, Decides-and, SamePath, step_view, steps_view, path_view, step-same, JsonPath, Path}
use Rattle.jsonb.specs.contracts.path.compare.PathPartialEq.TheImpl.{eq-value as path_equal}
use Rattle.jsonb.specs.contracts.path.JsonPathPartialEq.TheImpl.{eq-value as json_path_equal}

steps-equal : (p q : List Path) → Decides (pointwise path_equal.it p q) (SamePath (steps_view p) (steps_view q))
steps-equal [] [] = (λ h. tt, λ e. refl)
steps-equal (s ∷ p) (t ∷ q) = Decides-and _ _ (step-same (step_view s) (step_view t)) (steps-equal p q)
steps-equal _ _ = (λ h. cc, λ h. absurd h)

pub path-equal : (a b : JsonPath) → Decides (json_path_equal.it a b) (SamePath (path_view a) (path_view b))
path-equal a b = steps-equal a.paths.items b.paths.items
