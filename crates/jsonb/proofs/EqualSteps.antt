-- Steps of two kinds have not the same parts.
use Rattle.jsonb.proofs.Common.{◌≡◌, ℕ, List, false, Option, Box, Vec, Global, refl, CowStr, Step, Expression, Entry, Levels, step_layer, step_view, expression_view, is_same_step, ArrayIndex, Expr, out-Expr, Path, map-Path, out-Path, RecursiveLevel}
use Rattle.jsonb.specs.PathTree as tree
use Rattle.jsonb.specs.declared.path.Expr.TheBlock as block
use Rattle.jsonb.specs.declared.path.Path.TheVariants as step
use Rattle.jsonb.proofs.PathNodes.{step_is}
use denote.Hole.Carrier

-- one level of a step
abbrev seen : Path → Step
seen s = step_layer (map-Path Expr Path Expression Step expression_view step_view (block.view-Path s))

seen-is : (s : Path) → step_view s ≡ seen s
unfolding out-Path Carrier.out
seen-is s = step_is s (block.view-Path s) refl

pub other_than_levels : (l : Option Levels) (t : Path) → ((x : Option RecursiveLevel) → t ≡ step.RecursiveDotWildcard x → ⊥) →
    false ≡ is_same_step (tree.recursive_dot_wildcard l) (step_view t)
unfolding out-Expr Carrier.out
other_than_levels l (block.RecursiveDotWildcard x) other = absurd (other x refl)
other_than_levels l t other = rw (seen-is t) refl

pub other_than_dot_field : (n : List ℕ) (t : Path) → ((x : CowStr Global) → t ≡ step.DotField x → ⊥) → false ≡ is_same_step (tree.dot_field n) (step_view t)
unfolding out-Expr Carrier.out
other_than_dot_field n (block.DotField x) other = absurd (other x refl)
other_than_dot_field n t other = rw (seen-is t) refl

pub other_than_colon_field : (n : List ℕ) (t : Path) → ((x : CowStr Global) → t ≡ step.ColonField x → ⊥) →
    false ≡ is_same_step (tree.colon_field n) (step_view t)
unfolding out-Expr Carrier.out
other_than_colon_field n (block.ColonField x) other = absurd (other x refl)
other_than_colon_field n t other = rw (seen-is t) refl

pub other_than_object_field : (n : List ℕ) (t : Path) → ((x : CowStr Global) → t ≡ step.ObjectField x → ⊥) →
    false ≡ is_same_step (tree.object_field n) (step_view t)
unfolding out-Expr Carrier.out
other_than_object_field n (block.ObjectField x) other = absurd (other x refl)
other_than_object_field n t other = rw (seen-is t) refl

pub other_than_indices : (es : List Entry) (t : Path) → ((x : Vec ArrayIndex Global) → t ≡ step.ArrayIndices x → ⊥) →
    false ≡ is_same_step (tree.array_indices es) (step_view t)
unfolding out-Expr Carrier.out
other_than_indices es (block.ArrayIndices x) other = absurd (other x refl)
other_than_indices es t other = rw (seen-is t) refl

pub other_than_filter : (e : Expression) (t : Path) → ((x : Box Expr Global) → t ≡ step.FilterExpr x → ⊥) → false ≡ is_same_step (tree.filter e) (step_view t)
unfolding out-Expr Carrier.out
other_than_filter e (block.FilterExpr' b f) other = absurd (other (record { ptr = b.ptr; alloc = b.alloc; value = f }) refl)
other_than_filter e t other = rw (seen-is t) refl

pub other_than_whole : (e : Expression) (t : Path) → ((x : Box Expr Global) → t ≡ step.Expr x → ⊥) →
    false ≡ is_same_step (tree.whole_expression e) (step_view t)
unfolding out-Expr Carrier.out
other_than_whole e (block.Expr' b f) other = absurd (other (record { ptr = b.ptr; alloc = b.alloc; value = f }) refl)
other_than_whole e t other = rw (seen-is t) refl
