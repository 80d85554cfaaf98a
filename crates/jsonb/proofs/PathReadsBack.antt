-- Printed paths, read.
use Rattle.jsonb.proofs.Common.{◌≡◌, ℕ, List, [], ◌∷◌, ◌++◌, length, Bool, true, false, Some, None, refl, sym, ◌∙◌, ap, arith, append_assoc, ◌==◌, flat_map, map, nat_tests, Parsed, Rule, ◌</>◌, repeat, all_consuming, ws, past, is_space, name, front, begins, name-none, Step, root, filter, whole_expression, Steps, no_steps, step, steps_of, Expression, path_root, operand, spaced_operand, operator, arithmetic_operator, binary_atom, group_with, exists_with, atom_with, and_with, or_with, expression, root_expression, first_step, front_steps, path_step, plain_path, json_path, step_text, steps_text, expression_text, path_text}
use Rattle.jsonb.proofs.Bounds.{expression-rule, path_step-rule}
use Rattle.jsonb.proofs.SettledPaths.{settled_step, settled_steps, settled}
use Rattle.jsonb.proofs.PathShape.{AreInner, ArePathSteps, IsCondition, IsPath}
use Rattle.jsonb.proofs.InnerReadsBack.{past-none, spaced-reads, spaced-none, literal-none}
use Rattle.jsonb.proofs.OperandReadsBack.{spaced-to, inners-text, is_inner_start, steps_list, unary-none}
use Rattle.jsonb.proofs.ConditionReadsBack.{is_condition_start, no_space-condition, expression-reads, steps-read, is_step_start, front-steps, binary-none}

-- text that does not begin with a space, and one of the two rules
whole_path : (input : List ℕ) (p : List Step) → past is_space input ≡ input → (root_expression </> plain_path) input ≡ Some (p, []) → json_path input ≡ Some p
unfolding json_path
whole_path input p no_space h = ap (λ (o : Parsed (List Step)). all_consuming o) (spaced-reads (root_expression </> plain_path) input p [] (rw no_space h))

-- ---- a whole expression

root_expression-text : (e : Expression) → IsCondition false e → root_expression (expression_text e ++ []) ≡ Some (whole_expression (settled e) ∷ [], [])
unfolding root_expression
root_expression-text e is =
    rw (spaced-to (expression false) (expression_text e ++ []) (settled e) [] (rw (no_space-condition false e [] is) ((expression-reads e).0 false [] is refl))) refl

path-of_expression : (e : Expression) → IsCondition false e → json_path (path_text (whole_expression e ∷ [])) ≡ Some (whole_expression (settled e) ∷ [])
path-of_expression e is =
    whole_path (expression_text e ++ []) (whole_expression (settled e) ∷ []) (no_space-condition false e [] is) (rw (root_expression-text e is) refl)

-- ---- no expression

no_root_expression : (input : List ℕ) → past is_space input ≡ input → atom_with expression false input ≡ None → root_expression input ≡ None
unfolding root_expression or_with and_with
no_root_expression input no_space h = rw (spaced-none (expression false) input (rw (no_space, expression-rule false input, h) refl)) refl

-- nothing that an expression begins with
no_atom : (f : Bool) (input : List ℕ) → past is_space input ≡ input → begins is_condition_start input ≡ false → atom_with expression f input ≡ None
unfolding atom_with group_with exists_with
no_atom f input no_space h = rw (unary-none f input (grind (arith, nat_tests)), binary-none f input (rw no_space (grind (arith, nat_tests))))
    (rw (literal-none 40 [] input (grind (arith, nat_tests)), literal-none 101 _ input (grind (arith, nat_tests))) refl)

-- ---- a path that begins with the root

abbrev is_question : ℕ → Bool
is_question b = b == 63

-- steps without expressions, and then a filter or the end
record Leading (input : List ℕ) : Type 0 where
  found : Steps
  rest : List ℕ
  shown : input ≡ steps_text found ++ rest
  are : AreInner found
  ends : front is_question rest ≡ true

leading : (ss : Steps) → ArePathSteps ss → Leading (steps_text ss ++ [])
leading no_steps are = record { found = no_steps; rest = []; shown = refl; are = tt; ends = refl }
leading (step (filter e) ss) are =
    record { found = no_steps; rest = steps_text (step (filter e) ss) ++ []; shown = refl; are = tt; ends = refl }
leading (step s ss) are =
    let more = leading ss are.1 in
    record {
      found = step s more.found;
      rest = more.rest;
      shown = append_assoc (step_text s) (steps_text ss) [] ∙ ap (λ (xs : List ℕ). step_text s ++ xs) more.shown
          ∙ sym (append_assoc (step_text s) (steps_text more.found) more.rest);
      are = (are.0, more.are);
      ends = more.ends;
    }

no_operator : (input : List ℕ) → front is_question input ≡ true → operator input ≡ None
unfolding operator arithmetic_operator
no_operator input h = grind (arith, nat_tests)

no_atom-path : (ss : Steps) → ArePathSteps ss → atom_with expression false (36 ∷ steps_text ss ++ []) ≡ None
unfolding atom_with group_with exists_with binary_atom spaced_operand operand path_root ws
no_atom-path ss are =
    let l = leading ss are in
    let ends = l.ends in
    let none : past is_space l.rest ≡ l.rest = past-none is_space l.rest (grind (arith, nat_tests)) in
    let behind : begins is_inner_start (past is_space l.rest) ≡ false = rw none (grind (arith, nat_tests)) in
    let r = inners-text l.found l.rest (steps_text ss ++ []) l.are (grind (arith, nat_tests), behind) (ap (past is_space) l.shown)
    (omega (arith, ap (λ (xs : List ℕ). length xs) l.shown)) in
    rw (unary-none false (36 ∷ steps_text ss ++ []) refl, r.reads, r.same, none, no_operator l.rest l.ends) refl

-- ---- the steps

path_steps-text : (ss : Steps) → ArePathSteps ss → repeat path_step (steps_text ss ++ []) ≡ Some (steps_list (settled_steps ss), [])
path_steps-text ss are = ap (λ (rule : Rule Step). repeat rule (steps_text ss ++ [])) (λ i input. path_step-rule input i) ∙ steps-read ss [] are refl

no_first_step : (input : List ℕ) → front is_step_start input ≡ true → first_step input ≡ None
unfolding first_step
no_first_step input h = rw (literal-none 36 [] input (grind (arith, nat_tests)))
    (rw (spaced-none name input (rw (past-none is_space input (grind (arith, nat_tests))) (name-none input (grind (arith, nat_tests))))) refl)

plain_path-steps : (ss : Steps) → ArePathSteps ss → plain_path (steps_text ss ++ []) ≡ Some (steps_list (settled_steps ss), [])
unfolding plain_path front_steps
plain_path-steps ss are = rw (no_first_step (steps_text ss ++ []) (front-steps ss [] are is_step_start (λ b e. e) refl), path_steps-text ss are) refl

-- ---- whole text

shown : (ss : List Step) → flat_map step_text ss ≡ steps_text (steps_of ss) ++ []
shown [] = refl
shown (s ∷ ss) = ap (λ (xs : List ℕ). step_text s ++ xs) (shown ss) ∙ sym (append_assoc (step_text s) (steps_text (steps_of ss)) [])

settled_list : (ss : List Step) → steps_list (settled_steps (steps_of ss)) ≡ map settled_step ss
settled_list [] = refl
settled_list (s ∷ ss) = ap (λ (more : List Step). settled_step s ∷ more) (settled_list ss)

path-of_root : (ss : List Step) → ArePathSteps (steps_of ss) → json_path (path_text (root ∷ ss)) ≡ Some (root ∷ map settled_step ss)
unfolding plain_path front_steps first_step
path-of_root ss are = grind (arith, shown, settled_list, whole_path, settled_steps, no_root_expression, no_atom-path, path_steps-text)

path-of_steps : (ss : List Step) → ArePathSteps (steps_of ss) → json_path (path_text ss) ≡ Some (map settled_step ss)
path-of_steps ss are =
    let input = steps_text (steps_of ss) ++ [] in
    let starts = front-steps (steps_of ss) [] are is_step_start (λ b e. e) refl in
    let no_space = past-none is_space input (grind (arith, nat_tests)) in
    rw (shown ss, ← settled_list ss) (whole_path input (steps_list (settled_steps (steps_of ss))) no_space
    (rw (no_root_expression input no_space (no_atom false input no_space (grind (arith, nat_tests))), plain_path-steps (steps_of ss) are) refl))

pub path-text : (p : List Step) → IsPath p → json_path (path_text p) ≡ Some (map settled_step p)
path-text p h = grind (arith, path-of_expression, path-of_root, path-of_steps)
