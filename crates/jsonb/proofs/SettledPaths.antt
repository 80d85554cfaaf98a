-- A path with each non-negative integer unsigned, and paths that are the same in this form.
use Rattle.jsonb.proofs.Common.{◌≡◌, List, [], ◌∷◌, map, refl, ap, ap₂, pos, Int64, SameStepBut, SameStepsBut, SameExpressionBut, settled_literal, SameButVariants, Literal, number, Step, filter, whole_expression, Steps, no_steps, step, Expression, paths, value, binary, unary, exists}

abbrev mutual
  pub settled_step : Step → Step
  settled_step (filter e) = filter (settled e)
  settled_step (whole_expression e) = whole_expression (settled e)
  settled_step s = s

  pub settled_steps : Steps → Steps
  settled_steps no_steps = no_steps
  settled_steps (step s ss) = step (settled_step s) (settled_steps ss)

  pub settled : Expression → Expression
  settled (paths steps) = paths (settled_steps steps)
  settled (value l) = value (settled_literal l)
  settled (binary op left right) = binary op (settled left) (settled right)
  settled (unary op operand) = unary op (settled operand)
  settled (exists steps) = exists (settled_steps steps)

abbrev SameVariant : Literal → Literal → Type 0
SameVariant l m = settled_literal l ≡ settled_literal m

-- ---- paths that are the same have one form

mutual
  one_step : (s t : Step) → SameStepBut SameVariant s t → settled_step s ≡ settled_step t
  one_step (filter e) (filter f) h = ap filter (one_expression e f h)
  one_step (whole_expression e) (whole_expression f) h = ap whole_expression (one_expression e f h)
  one_step s t h = ap settled_step h

  one_list : (ss ts : Steps) → SameStepsBut SameVariant ss ts → settled_steps ss ≡ settled_steps ts
  one_list no_steps no_steps h = refl
  one_list (step s ss) (step t ts) h = ap₂ step (one_step s t h.0) (one_list ss ts h.1)
  one_list _ _ h = absurd h

  one_expression : (e f : Expression) → SameExpressionBut SameVariant e f → settled e ≡ settled f
  one_expression (paths ss) (paths ts) h = ap paths (one_list ss ts h)
  one_expression (value l) (value m) h = ap value h
  one_expression (binary op left right) (binary op' left' right') h = rw (h.0, one_expression left left' h.1, one_expression right right' h.2) refl
  one_expression (unary op e) (unary op' f) h = rw (h.0, one_expression e f h.1) refl
  one_expression (exists ss) (exists ts) h = ap exists (one_list ss ts h)
  one_expression _ _ h = absurd h

pub one_path : (p q : List Step) → SameButVariants p q → map settled_step p ≡ map settled_step q
one_path [] [] h = refl
one_path (s ∷ p) (t ∷ q) h = ap₂ (λ u r. u ∷ r) (one_step s t h.0) (one_path p q h.1)
one_path _ _ h = absurd h

-- ---- a path is the same as its form

literal_itself : (l : Literal) → SameVariant l (settled_literal l)
literal_itself (number (Int64 (pos n))) = refl
literal_itself _ = refl

mutual
  step_itself : (s : Step) → SameStepBut SameVariant s (settled_step s)
  step_itself (filter e) = itself e
  step_itself (whole_expression e) = itself e
  step_itself _ = refl

  steps_itself : (ss : Steps) → SameStepsBut SameVariant ss (settled_steps ss)
  steps_itself no_steps = tt
  steps_itself (step s ss) = (step_itself s, steps_itself ss)

  itself : (e : Expression) → SameExpressionBut SameVariant e (settled e)
  itself (paths ss) = steps_itself ss
  itself (value l) = literal_itself l
  itself (binary op left right) = (refl, itself left, itself right)
  itself (unary op e) = (refl, itself e)
  itself (exists ss) = steps_itself ss

pub path_itself : (p : List Step) → SameButVariants p (map settled_step p)
path_itself [] = tt
path_itself (s ∷ p) = (step_itself s, path_itself p)
