-- The number of nodes of a path, and of steps that dropping an expression still takes.
use Rattle.std.specs.Prelude.{ℕ, ◌+◌, Option, None, Some}
use Rattle.std.specs.declared.alloc.Global.{Global}
use Rattle.std.specs.declared.boxed.Box.{Box}
use Rattle.jsonb_doc.specs.Private.Parts.{to_release}
use Rattle.jsonb.specs.PathTree.{Step, filter, whole_expression, Steps, no_steps, step, Expression, paths, value, binary, unary, exists}
use Rattle.jsonb.specs.PathViews.{expression_view}
use Rattle.jsonb.specs.declared.path.Expr.{Expr}
use Rattle.jsonb.specs.declared.path.release.Remaining.{Remaining}

-- each expression and each step is one
abbrev mutual
  pub step_parts : Step → ℕ
  step_parts (filter e) = 1 + expression_parts e
  step_parts (whole_expression e) = 1 + expression_parts e
  step_parts _ = 1

  pub steps_parts : Steps → ℕ
  steps_parts no_steps = 0
  steps_parts (step s ss) = step_parts s + steps_parts ss

  pub expression_parts : Expression → ℕ
  expression_parts (paths ss) = 1 + steps_parts ss
  expression_parts (value l) = 1
  expression_parts (binary op left right) = 1 + expression_parts left + expression_parts right
  expression_parts (unary op e) = 1 + expression_parts e
  expression_parts (exists ss) = 1 + steps_parts ss

abbrev pub parts : Expr → ℕ
parts e = expression_parts (expression_view e)

abbrev pub waiting_parts : Option (Box Expr Global) → ℕ
waiting_parts None = 0
waiting_parts (Some b) = parts b.value

-- the number of steps that dropping what remains still takes
abbrev pub remaining : Remaining → ℕ
remaining r = to_release (parts r.next) (waiting_parts r.waiting)
