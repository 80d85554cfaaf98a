-- A path that was read has one meaning on each tree.
use Rattle.jsonb.proofs.Common.{ℕ, List, [], ◌∷◌, Some, ◌≡◌, refl, inl, inr, Form, Tree, Means, meaning, json_path, Step, whole_expression, value, raw, Mode}
use Rattle.jsonb.proofs.PathShape.{IsPath}
use Rattle.jsonb.proofs.GrammarShape.{json_path_is_path}

-- no text has a document as a literal
shape_means : (form : Form) (mode : Mode) (p : List Step) (top : Tree) → IsPath p → Means form mode p top (meaning mode p top)
shape_means form mode (whole_expression (value (raw document)) ∷ []) top (inl (e, is, condition)) =
    let same : e ≡ value (raw document) = cc in absurd (rw same at condition)
shape_means form mode (whole_expression (value (raw document)) ∷ []) top (inr (inl (ss, is, each))) = cc
shape_means form mode (whole_expression (value (raw document)) ∷ []) top (inr (inr each)) = absurd each.0
shape_means form mode p top shape = refl

pub read_means : (form : Form) (mode : Mode) (text : List ℕ) (p : List Step) (top : Tree) → json_path text ≡ Some p → Means form mode p top (meaning mode p top)
read_means form mode text p top read = shape_means form mode p top (json_path_is_path text p read)
