-- The tree of a step and of an expression, one level opened.
use Rattle.jsonb.proofs.Common.{◌≡◌, List, [], ◌∷◌, ◌++◌, map-append, ap, ◌∙◌, Option, Vec, Box, Global, cow_str_bytes, CowStr, Step, Expression, steps_of, step_layer, expression_layer, step_view, expression_view, steps_view, literal_view, ArrayIndex, RecursiveLevel, BinaryOperator, UnaryOperator, PathValue, Path, out-Path, map-Path, fold_out-Path, Expr, out-Expr, map-Expr, fold_out-Expr, Expr-F, Path-F}
use Rattle.jsonb.specs.PathTree as math
use Rattle.jsonb.specs.declared.path.Path.TheVariants as step
use Rattle.jsonb.specs.declared.path.Expr.TheVariants as expr

pub expression_is : (e : Expr) (x : Expr-F Expr Path) → out-Expr e ≡ x
    → expression_view e ≡ expression_layer (map-Expr Expr Path Expression Step expression_view step_view x)
expression_is e x h = fold_out-Expr Expression Step expression_layer step_layer e
    ∙ ap (λ y. expression_layer (map-Expr Expr Path Expression Step expression_view step_view y)) h

pub step_is : (s : Path) (x : Path-F Expr Path) → out-Path s ≡ x → step_view s ≡ step_layer (map-Path Expr Path Expression Step expression_view step_view x)
step_is s x h = fold_out-Path Expression Step expression_layer step_layer s
    ∙ ap (λ y. step_layer (map-Path Expr Path Expression Step expression_view step_view y)) h

-- ---- steps

pub root_is : (s : Path) → s ≡ step.Root → step_view s ≡ math.root
root_is s h = ap step_view h ∙ step_is _ _ step.outs-Root

pub current_is : (s : Path) → s ≡ step.Current → step_view s ≡ math.current
current_is s h = ap step_view h ∙ step_is _ _ step.outs-Current

pub values_is : (s : Path) → s ≡ step.DotWildcard → step_view s ≡ math.dot_wildcard
values_is s h = ap step_view h ∙ step_is _ _ step.outs-DotWildcard

pub elements_is : (s : Path) → s ≡ step.BracketWildcard → step_view s ≡ math.bracket_wildcard
elements_is s h = ap step_view h ∙ step_is _ _ step.outs-BracketWildcard

pub levels_is : (s : Path) (levels : Option RecursiveLevel) → s ≡ step.RecursiveDotWildcard levels → step_view s ≡ math.recursive_dot_wildcard levels
levels_is s levels h = ap step_view h ∙ step_is _ _ (step.outs-RecursiveDotWildcard levels)

pub dot_field_is : (s : Path) (name : CowStr Global) → s ≡ step.DotField name → step_view s ≡ math.dot_field (cow_str_bytes name)
dot_field_is s name h = ap step_view h ∙ step_is _ _ (step.outs-DotField name)

pub colon_field_is : (s : Path) (name : CowStr Global) → s ≡ step.ColonField name → step_view s ≡ math.colon_field (cow_str_bytes name)
colon_field_is s name h = ap step_view h ∙ step_is _ _ (step.outs-ColonField name)

pub object_field_is : (s : Path) (name : CowStr Global) → s ≡ step.ObjectField name → step_view s ≡ math.object_field (cow_str_bytes name)
object_field_is s name h = ap step_view h ∙ step_is _ _ (step.outs-ObjectField name)

pub indices_is : (s : Path) (entries : Vec ArrayIndex Global) → s ≡ step.ArrayIndices entries → step_view s ≡ math.array_indices entries.items
indices_is s entries h = ap step_view h ∙ step_is _ _ (step.outs-ArrayIndices entries)

pub filter_is : (s : Path) (e : Box Expr Global) → s ≡ step.FilterExpr e → step_view s ≡ math.filter (expression_view e.value)
filter_is s e h = ap step_view h ∙ step_is _ _ (step.outs-FilterExpr e)

pub whole_is : (s : Path) (e : Box Expr Global) → s ≡ step.Expr e → step_view s ≡ math.whole_expression (expression_view e.value)
whole_is s e h = ap step_view h ∙ step_is _ _ (step.outs-Expr e)

-- ---- expressions

pub paths_is : (e : Expr) (steps : Vec Path Global) → e ≡ expr.Paths steps → expression_view e ≡ math.paths (steps_of (steps_view steps.items))
paths_is e steps h = ap expression_view h ∙ expression_is _ _ (expr.outs-Paths steps)

-- the children of a member: `@`, names, and `.*` at the end
pub children_are : (e : Expr) (steps : Vec Path Global) (front names : List Path) (last : Path) → e ≡ expr.Paths steps → steps.items ≡ front ++ last ∷ []
    → last ≡ step.DotWildcard → steps_view front ≡ math.current ∷ steps_view names
    → expression_view e ≡ math.paths (math.step math.current (steps_of (steps_view names ++ math.dot_wildcard ∷ [])))
children_are e steps front names last is whole wildcard begins =
    paths_is e steps is ∙ ap (λ ss. math.paths (steps_of ss)) (ap steps_view whole ∙ map-append step_view front (last ∷ [])
    ∙ ap (λ ss. ss ++ step_view last ∷ []) begins ∙ ap (λ s. math.current ∷ (steps_view names ++ s ∷ [])) (values_is last wildcard))

pub literal_is : (e : Expr) (l : Box PathValue Global) → e ≡ expr.Value l → expression_view e ≡ math.value (literal_view l.value)
literal_is e l h = ap expression_view h ∙ expression_is _ _ (expr.outs-Value l)

pub binary_is : (e : Expr) (op : BinaryOperator) (l r : Box Expr Global) → e ≡ expr.BinaryOp op l r
    → expression_view e ≡ math.binary op (expression_view l.value) (expression_view r.value)
binary_is e op l r h = ap expression_view h ∙ expression_is _ _ (expr.outs-BinaryOp op l r)

pub unary_is : (e : Expr) (op : UnaryOperator) (x : Box Expr Global) → e ≡ expr.UnaryOp op x → expression_view e ≡ math.unary op (expression_view x.value)
unary_is e op x h = ap expression_view h ∙ expression_is _ _ (expr.outs-UnaryOp op x)

pub exists_is : (e : Expr) (steps : Vec Path Global) → e ≡ expr.ExistsFunc steps → expression_view e ≡ math.exists (steps_of (steps_view steps.items))
exists_is e steps h = ap expression_view h ∙ expression_is _ _ (expr.outs-ExistsFunc steps)
