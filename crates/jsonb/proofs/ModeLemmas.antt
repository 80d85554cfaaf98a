-- What strict mode gives, lax mode gives too.
use Rattle.jsonb.proofs.Common.{◌≡◌, List, [], ◌∷◌, ◌++◌, map, Option, Some, None, option_map, Ok, Err, refl, sym, subst, ◌∙◌, Outcome, and_then, try_flat_map, Operation, Form, Tree, field_of, array_values, BinaryOp, and_op, or_op, add, subtract, multiply, divide, modulo, Step, root, current, dot_wildcard, recursive_dot_wildcard, bracket_wildcard, dot_field, colon_field, object_field, array_indices, filter, whole_expression, Steps, no_steps, step, Expression, paths, value, raw, binary, unary, exists, steps_of, Truth, operation, two_numbers, each_signed, list_or, picked, values_of, step_meaning, steps_meaning, operand_values, truth, start, as_filter, expression_meaning, meaning, Means, binary_meaning, truth_list, Lax, Strict}

-- a value of the first is the second's
abbrev Keeps : {A : Type 0} → Outcome A → Outcome A → Type 0
Keeps (Ok x) lax = lax ≡ Ok x
Keeps (Err e) lax = Unit {0}

keeps_same : {A : Type 0} (o : Outcome A) → Keeps o o
keeps_same (Ok x) = refl
keeps_same (Err e) = tt

keeps_with : {A B : Type 0} (o p : Outcome A) (f g : A → Outcome B) → Keeps o p → ((x : A) → Keeps (f x) (g x)) → Keeps (and_then o f) (and_then p g)
keeps_with (Ok x) p f g h k = subst (λ q. Keeps (f x) (and_then q g)) (sym h) (k x)
keeps_with (Err e) p f g h k = tt

keeps_joined : {A B : Type 0} (f g : A → Outcome (List B)) → ((x : A) → Keeps (f x) (g x)) → (xs : List A) → Keeps (try_flat_map f xs) (try_flat_map g xs)
keeps_joined f g h [] = refl
keeps_joined f g h (x ∷ xs) = keeps_with (f x) (g x) (λ front. and_then (try_flat_map f xs) (λ back. Ok (front ++ back)))
    (λ front. and_then (try_flat_map g xs) (λ back. Ok (front ++ back))) (h x)
    (λ front. keeps_with (try_flat_map f xs) (try_flat_map g xs) (λ back. Ok (front ++ back)) (λ back. Ok (front ++ back)) (keeps_joined f g h xs)
    (λ back. refl))

list_kept : (otherwise : List Tree) (o : Option (List Tree)) → Keeps (list_or Strict otherwise o) (list_or Lax otherwise o)
list_kept otherwise (Some ts) = refl
list_kept otherwise None = tt

mutual
  step_kept : (s : Step) (top item : Tree) → Keeps (step_meaning Strict s top item) (step_meaning Lax s top item)
  step_kept root top item = refl
  step_kept current top item = refl
  step_kept dot_wildcard top item = list_kept [] (values_of item)
  step_kept (recursive_dot_wildcard levels) top item = refl
  step_kept bracket_wildcard top item = list_kept (item ∷ []) (array_values item)
  step_kept (dot_field name) top item = list_kept [] (option_map (λ u. u ∷ []) (field_of name item))
  step_kept (colon_field name) top item = list_kept [] (option_map (λ u. u ∷ []) (field_of name item))
  step_kept (object_field name) top item = list_kept [] (option_map (λ u. u ∷ []) (field_of name item))
  step_kept (array_indices entries) top item = list_kept [] (option_map (picked entries) (array_values item))
  step_kept (filter e) top item = keeps_with (truth Strict e top item) (truth Lax e top item) _ _ (truth_kept e top item) (λ b. refl)
  step_kept (whole_expression e) top item = tt

  steps_kept : (ss : Steps) (top : Tree) (items : List Tree) → Keeps (steps_meaning Strict ss top items) (steps_meaning Lax ss top items)
  steps_kept no_steps top items = refl
  steps_kept (step s rest) top items =
      keeps_with (try_flat_map (step_meaning Strict s top) items) (try_flat_map (step_meaning Lax s top) items) (steps_meaning Strict rest top)
      (steps_meaning Lax rest top)
      (keeps_joined (step_meaning Strict s top) (step_meaning Lax s top) (λ item. step_kept s top item) items) (λ ts. steps_kept rest top ts)

  operand_kept : (e : Expression) (top item : Tree) → Keeps (operand_values Strict e top item) (operand_values Lax e top item)
  operand_kept (paths ss) top item = keeps_with (steps_meaning Strict ss top (start ss top item ∷ [])) (steps_meaning Lax ss top (start ss top item ∷ [])) _ _
      (steps_kept ss top (start ss top item ∷ [])) (λ ts. refl)
  operand_kept (value l) top item = refl
  operand_kept _ top item = tt

  truth_kept : (e : Expression) (top item : Tree) → Keeps (truth Strict e top item) (truth Lax e top item)
  truth_kept (binary and_op l r) top item = keeps_with (truth Strict l top item) (truth Lax l top item) _ _ (truth_kept l top item)
      (λ a. keeps_with (truth Strict r top item) (truth Lax r top item) _ _ (truth_kept r top item) (λ b. refl))
  truth_kept (binary or_op l r) top item = keeps_with (truth Strict l top item) (truth Lax l top item) _ _ (truth_kept l top item)
      (λ a. keeps_with (truth Strict r top item) (truth Lax r top item) _ _ (truth_kept r top item) (λ b. refl))
  truth_kept (binary add l r) top item = refl
  truth_kept (binary subtract l r) top item = refl
  truth_kept (binary multiply l r) top item = refl
  truth_kept (binary divide l r) top item = refl
  truth_kept (binary modulo l r) top item = refl
  truth_kept (binary op l r) top item = keeps_with (operand_values Strict l top item) (operand_values Lax l top item) _ _ (operand_kept l top item)
      (λ ls. keeps_with (operand_values Strict r top item) (operand_values Lax r top item) _ _ (operand_kept r top item) (λ rs. refl))
  truth_kept (exists ss) top item = keeps_with (steps_meaning Strict ss top (start ss top item ∷ [])) (steps_meaning Lax ss top (start ss top item ∷ [])) _ _
      (steps_kept ss top (start ss top item ∷ [])) (λ ts. refl)
  truth_kept _ top item = tt

truth_list_kept : (a b : Outcome Truth) → Keeps a b → Keeps (truth_list a) (truth_list b)
truth_list_kept a b h = keeps_with a b _ _ h (λ t. refl)

binary_kept : (o : Option Operation) (op : BinaryOp) (l r : Expression) (top : Tree)
    → Keeps (binary_meaning Strict o op l r top) (binary_meaning Lax o op l r top)
binary_kept (Some arithmetic) op l r top = keeps_with (operand_values Strict l top top) (operand_values Lax l top top) _ _ (operand_kept l top top)
    (λ ls. keeps_with (operand_values Strict r top top) (operand_values Lax r top top) _ _ (operand_kept r top top)
    (λ rs. keeps_same (two_numbers arithmetic ls rs)))
binary_kept None op l r top = truth_list_kept (truth Strict (binary op l r) top top) (truth Lax (binary op l r) top top) (truth_kept (binary op l r) top top)

expression_kept : (e : Expression) (top : Tree) → Keeps (expression_meaning Strict e top) (expression_meaning Lax e top)
expression_kept (paths ss) top = tt
expression_kept (value l) top = keeps_same (expression_meaning Lax (value l) top)
expression_kept (unary op e) top = keeps_with (operand_values Strict e top top) (operand_values Lax e top top) (each_signed op) (each_signed op)
    (operand_kept e top top) (λ vs. keeps_same (each_signed op vs))
expression_kept (binary op l r) top = binary_kept (operation op) op l r top
expression_kept (exists ss) top = truth_list_kept (truth Strict (exists ss) top top) (truth Lax (exists ss) top top) (truth_kept (exists ss) top top)

meaning_kept : (path : List Step) (top : Tree) → Keeps (meaning Strict path top) (meaning Lax path top)
meaning_kept (whole_expression e ∷ []) top = expression_kept e top
meaning_kept (current ∷ rest) top = tt
meaning_kept [] top = refl
meaning_kept (s ∷ rest) top = steps_kept (steps_of (map as_filter (s ∷ rest))) top (top ∷ [])

from_kept : {A : Type 0} (o p : Outcome A) (x : A) → Keeps o p → Ok x ≡ o → Ok x ≡ p
from_kept (Ok y) p x h is = is ∙ sym h
from_kept (Err e) p x h is = cc

module _ (form : Form) (top : Tree) (ts : List Tree) where
  pub means_kept : (path : List Step) → Means form Strict path top (Ok ts) → Means form Lax path top (Ok ts)
  means_kept (whole_expression (value (raw document)) ∷ []) h = h
  means_kept path h = from_kept (meaning Strict path top) (meaning Lax path top) ts (meaning_kept path top) h
