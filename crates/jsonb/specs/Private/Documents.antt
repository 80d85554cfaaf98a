-- Whether a path has a document among its literals, for the functions that copy paths.
use Rattle.std.specs.Prelude.{Bool, false, ◌||◌, List}
use Rattle.jsonb.specs.PathDocuments.{is_document}
use Rattle.jsonb.specs.PathTree.{Step, filter, whole_expression, Steps, no_steps, step, Expression, paths, value, binary, unary, exists, steps_of}

abbrev mutual
  pub step_has_document : Step → Bool
  step_has_document (filter e) = expression_has_document e
  step_has_document (whole_expression e) = expression_has_document e
  step_has_document s = false

  pub steps_have_document : Steps → Bool
  steps_have_document no_steps = false
  steps_have_document (step s rest) = step_has_document s || steps_have_document rest

  pub expression_has_document : Expression → Bool
  expression_has_document (paths steps) = steps_have_document steps
  expression_has_document (value l) = is_document l
  expression_has_document (binary op l r) = expression_has_document l || expression_has_document r
  expression_has_document (unary op e) = expression_has_document e
  expression_has_document (exists steps) = steps_have_document steps

abbrev pub has_document : List Step → Bool
has_document path = steps_have_document (steps_of path)
