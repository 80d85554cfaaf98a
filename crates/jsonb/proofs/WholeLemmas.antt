-- Paths that are one expression, and all others.
use Rattle.jsonb.proofs.Common.{◌≡◌, ◌<◌, ◌≤◌, length, get_or, steps_view, List, [], ◌∷◌, map, Some, None, is_some, Option, true, false, Ok, refl, ap, sym, ◌∙◌, Box, Global, Outcome, and_then, Form, Tree, Step, Expression, steps_of, step_view, steps_meaning, truth, try_flat_map, filtered, as_filter, Means, step_expression, only_expression, is_relative, taken_step, AreFilters, has_condition, Mode, Expr, Path-F, roll-Path, roll-out-Path, Path, out-Path, arith, ℕ, flat_map, compare, field_step, expression_predicate, is_comparison, operand_values, operation, root_name, start, Value, values_of_item}
use Rattle.jsonb.specs.PathTree as math
use Rattle.jsonb.specs.declared.path.Path.TheVariants as step
use Rattle.jsonb.proofs.KeptLemmas.{comparison_is}
use Rattle.jsonb.proofs.PathNodes.{step_is}
use Rattle.jsonb.proofs.PredicateLemmas.{binary_predicate, predicate_by_cases}
use Rattle.jsonb.proofs.StepLemmas.{filter_steps, joined_one}

-- a step that is not an expression is the same as a filter
others : (s : Path) (x : Path-F Expr Path) → out-Path s ≡ x → ((e : Box Expr Global) → s ≡ step.Expr e → ⊥)
    → (as_filter (step_view s) ≡ step_view s) × (step_expression (step_view s) ≡ None)
others s (Path-F.Expr e) h n = absurd (n e (sym (roll-out-Path s) ∙ ap roll-Path h ∙ step.rolls-Expr e))
others s _ h n = (ap as_filter (step_is s _ h) ∙ sym (step_is s _ h), ap step_expression (step_is s _ h))

no_step_expression : (s : Path) → ((e : Box Expr Global) → s ≡ step.Expr e → ⊥) → step_expression (step_view s) ≡ None
no_step_expression s n = (others s (out-Path s) refl n).1

-- a step that is not an expression is not one alone
pub not_only : (steps : List Path) (s : Path) → 1 ≤ length steps → length steps < 2 → s ≡ get_or steps 0 s → ((e : Box Expr Global) → s ≡ step.Expr e → ⊥)
    → only_expression (steps_view steps) ≡ None
not_only [] s some few is n = absurd (omega (arith, some))
not_only (x ∷ []) s some few is n = ap (λ y. step_expression (step_view y)) (sym is) ∙ no_step_expression s n
not_only (x ∷ y ∷ xs) s some few is n = absurd (omega (arith, few))

no_condition_in : (s : Path) (x : Path-F Expr Path) → out-Path s ≡ x → ((e : Box Expr Global) → s ≡ step.FilterExpr e → ⊥)
    → ((e : Box Expr Global) → s ≡ step.Expr e → ⊥) → has_condition (step_view s) ≡ false
no_condition_in s (Path-F.FilterExpr e) h f w = absurd (f e (sym (roll-out-Path s) ∙ ap roll-Path h ∙ step.rolls-FilterExpr e))
no_condition_in s (Path-F.Expr e) h f w = absurd (w e (sym (roll-out-Path s) ∙ ap roll-Path h ∙ step.rolls-Expr e))
no_condition_in s _ h f w = ap has_condition (step_is s _ h)

pub no_condition : (s : Path) → ((e : Box Expr Global) → s ≡ step.FilterExpr e → ⊥) → ((e : Box Expr Global) → s ≡ step.Expr e → ⊥)
    → has_condition (step_view s) ≡ false
no_condition s f w = no_condition_in s (out-Path s) refl f w

pub lone_is : (path : List Step) (e : Expression) → only_expression path ≡ Some e → path ≡ math.whole_expression e ∷ []
lone_is path e h = grind arith

module _ (form : Form) (mode : Mode) (top : Tree) (outcome : Outcome (List Tree)) where
  pub by_steps : (path : List Step) → only_expression path ≡ None → is_relative path ≡ false → Means form mode path top outcome
      → outcome ≡ steps_meaning mode (steps_of (map as_filter path)) top (top ∷ [])
  by_steps path n b h = grind arith

  -- the same for the steps that are taken
  pub by_taken : (path : List Step) → only_expression path ≡ None → is_relative path ≡ false → Means form mode path top outcome
      → outcome ≡ steps_meaning mode (steps_of (map (taken_step AreFilters) path)) top (top ∷ [])
  by_taken path n b h = rw (filter_steps path) (by_steps path n b h)

  -- an expression that is seen as another
  pub meant : (x y : Expression) → x ≡ y → Means form mode (math.whole_expression x ∷ []) top outcome
      → Means form mode (math.whole_expression y ∷ []) top outcome
  meant x y is h = rw is at h

-- a filter of the root alone
pub root_filtered : (mode : Mode) (path : List Step) (e : Expression) (top : Tree) → path ≡ math.root ∷ math.filter e ∷ []
    → steps_meaning mode (steps_of (map as_filter path)) top (top ∷ []) ≡ and_then (truth mode e top top) (λ b. Ok (filtered top b))
root_filtered mode path e top is = grind (arith, joined_one)

pub some_of : {A : Type 0} (o : Option A) → is_some o ≡ true → (x : A) × (o ≡ Some x)
some_of (Some x) h = (x, refl)
some_of None h = cc

pub none_of : {A : Type 0} (o : Option A) → is_some o ≡ false → o ≡ None
none_of o h = grind arith

-- ---- `$` and a name

one_field : (mode : Mode) (o : Outcome (List Tree)) (top : Tree) → and_then o (steps_meaning mode math.no_steps top) ≡ o
one_field mode o top = grind arith

named_one : (mode : Mode) (name : List ℕ) (top : Tree)
    → and_then (try_flat_map (field_step mode name) (top ∷ [])) (steps_meaning mode math.no_steps top) ≡ field_step mode name top
named_one mode name top =
    ap (λ o. and_then o (steps_meaning mode math.no_steps top)) (joined_one (field_step mode name) top) ∙ one_field mode (field_step mode name top) top

no_name : {A : Type 0} {x : A} → None ≡ Some x → ⊥
no_name e = cc

named_steps : (mode : Mode) (path : List Step) (name : List ℕ) (top : Tree) → root_name path ≡ Some name
    → steps_meaning mode (steps_of path) top (top ∷ []) ≡ field_step mode name top
named_steps mode (math.root ∷ math.dot_field n ∷ []) name top is = let e : n ≡ name = cc in rw (← e) (named_one mode n top)
named_steps mode (math.root ∷ math.colon_field n ∷ []) name top is = let e : n ≡ name = cc in rw (← e) (named_one mode n top)
named_steps mode (math.root ∷ math.object_field n ∷ []) name top is = let e : n ≡ name = cc in rw (← e) (named_one mode n top)
named_steps mode _ name top is = absurd (no_name is)

pub named_meaning : (form : Form) (mode : Mode) (path : List Step) (name : List ℕ) (top : Tree) (outcome : Outcome (List Tree)) → root_name path ≡ Some name
    → Means form mode path top outcome → outcome ≡ field_step mode name top
named_meaning form mode path name top outcome is h = grind (arith, named_steps mode path name top is)

named_start : (path : List Step) (name : List ℕ) (top t : Tree) → root_name path ≡ Some name → start (steps_of path) top t ≡ top
named_start path name top t is = grind arith

no_operation : (op : math.BinaryOp) → is_comparison op ≡ true → operation op ≡ None
no_operation op h = grind arith

-- a comparison of such a path with a literal, as a predicate
pub named_compared : (mode : Mode) (op : math.BinaryOp) (path : List Step) (name : List ℕ) (r : Expression) (literal : Value) (top : Tree) → root_name path ≡ Some name
    → is_comparison op ≡ true → operand_values mode r top top ≡ Ok (literal ∷ [])
    → expression_predicate mode (math.binary op (math.paths (steps_of path)) r) top
    ≡ and_then (field_step mode name top) (λ ts. Ok (compare op (flat_map values_of_item ts) (literal ∷ [])))
named_compared mode op path name r literal top named compares is =
    predicate_by_cases mode (math.binary op (math.paths (steps_of path)) r) top
    ∙ ap (λ o. binary_predicate mode o op (math.paths (steps_of path)) r top) (no_operation op compares)
    ∙ rw (comparison_is mode op (math.paths (steps_of path)) r top top compares, is)
    (grind (arith, named_start path name top top named, named_steps mode path name top named))
