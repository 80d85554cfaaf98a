-- Paths of the same parts: a symmetric and transitive relation.
use Rattle.std.proofs.Common.{List, refl, sym, ◌∙◌, subst}
use Rattle.jsonb.specs.PathEquality.{SameLiteral, SameStepsBut, SamePath}
use Rattle.jsonb.specs.Private.SamePath.{SameStep, SameExpression}
use Rattle.jsonb.specs.PathTree.{Literal, Step, filter, whole_expression, Steps, no_steps, step, Expression, paths, value, binary, unary, exists, steps_of}
use Rattle.jsonb.specs.Proofs.PathOrder.{literal-same, is_same_literal_laws}

-- ---- literals

literal-symmetric : (l m : Literal) → SameLiteral l m → SameLiteral m l
literal-symmetric l m h =
    (literal-same m l).0 (is_same_literal_laws.symm m l ∙ (literal-same l m).1 h)

literal-transitive : (l m n : Literal) → SameLiteral l m → SameLiteral m n → SameLiteral l n
literal-transitive l m n h k =
    (literal-same l n).0 (is_same_literal_laws.trans l m n ((literal-same l m).1 h) ((literal-same m n).1 k))

-- ---- steps and expressions

mutual
  pub step-symmetric : (s t : Step) → SameStep s t → SameStep t s
  step-symmetric (filter e) (filter f) h = expression-symmetric e f h
  step-symmetric (filter e) t h = sym h
  step-symmetric (whole_expression e) (whole_expression f) h = expression-symmetric e f h
  step-symmetric (whole_expression e) t h = sym h
  step-symmetric s t h = subst (λ x. SameStep x s) h refl

  steps-symmetric : (ss ts : Steps) → SameStepsBut SameLiteral ss ts → SameStepsBut SameLiteral ts ss
  steps-symmetric no_steps no_steps h = tt
  steps-symmetric (step s ss) (step t ts) h = (step-symmetric s t h.0, steps-symmetric ss ts h.1)
  steps-symmetric ss ts h = absurd h

  pub expression-symmetric : (e f : Expression) → SameExpression e f → SameExpression f e
  expression-symmetric (paths ss) (paths ts) h = steps-symmetric ss ts h
  expression-symmetric (value l) (value m) h = literal-symmetric l m h
  expression-symmetric (binary op left right) (binary op' left' right') h =
      (sym h.0, expression-symmetric left left' h.1, expression-symmetric right right' h.2)
  expression-symmetric (unary op e) (unary op' f) h = (sym h.0, expression-symmetric e f h.1)
  expression-symmetric (exists ss) (exists ts) h = steps-symmetric ss ts h
  expression-symmetric e f h = absurd h

mutual
  pub step-transitive : (s t u : Step) → SameStep s t → SameStep t u → SameStep s u
  step-transitive (filter e) (filter f) (filter g) h k = expression-transitive e f g h k
  step-transitive (filter e) (filter f) u h k = cc
  step-transitive (filter e) t u h k = absurd (cc)
  step-transitive (whole_expression e) (whole_expression f) (whole_expression g) h k = expression-transitive e f g h k
  step-transitive (whole_expression e) (whole_expression f) u h k = cc
  step-transitive (whole_expression e) t u h k = absurd (cc)
  step-transitive s t u h k = subst (λ x. SameStep x u) (sym h) k

  steps-transitive : (ss ts us : Steps) → SameStepsBut SameLiteral ss ts → SameStepsBut SameLiteral ts us
      → SameStepsBut SameLiteral ss us
  steps-transitive no_steps no_steps us h k = k
  steps-transitive (step s ss) (step t ts) (step u us) h k = (step-transitive s t u h.0 k.0, steps-transitive ss ts us h.1 k.1)
  steps-transitive (step s ss) (step t ts) no_steps h k = absurd k
  steps-transitive ss ts us h k = absurd h

  pub expression-transitive : (e f g : Expression) → SameExpression e f → SameExpression f g → SameExpression e g
  expression-transitive (paths ss) (paths ts) (paths us) h k = steps-transitive ss ts us h k
  expression-transitive (paths ss) (paths ts) g h k = absurd k
  expression-transitive (value l) (value m) (value n) h k = literal-transitive l m n h k
  expression-transitive (value l) (value m) g h k = absurd k
  expression-transitive (binary op left right) (binary op' left' right') (binary op'' left'' right'') h k =
      (h.0 ∙ k.0, expression-transitive left left' left'' h.1 k.1, expression-transitive right right' right'' h.2 k.2)
  expression-transitive (binary op left right) (binary op' left' right') g h k = absurd k
  expression-transitive (unary op e) (unary op' f) (unary op'' g) h k = (h.0 ∙ k.0, expression-transitive e f g h.1 k.1)
  expression-transitive (unary op e) (unary op' f) g h k = absurd k
  expression-transitive (exists ss) (exists ts) (exists us) h k = steps-transitive ss ts us h k
  expression-transitive (exists ss) (exists ts) g h k = absurd k
  expression-transitive e f g h k = absurd h

pub path-symmetric : (p q : List Step) → SamePath p q → SamePath q p
path-symmetric p q h = steps-symmetric (steps_of p) (steps_of q) h

pub path-transitive : (p q r : List Step) → SamePath p q → SamePath q r → SamePath p r
path-transitive p q r h k = steps-transitive (steps_of p) (steps_of q) (steps_of r) h k
