-- Printed expressions and steps, read with anything after them that may be there.
use Rattle.jsonb.proofs.Common.{◌≡◌, ℕ, ◌<◌, List, [], ◌∷◌, ◌++◌, length, Bool, true, false, Some, None, refl, ◌∙◌, ap, arith, append_assoc, length-append, ◌==◌, ◌||◌, codes, MatchBool, nat_tests, Rule, give, ◌>>=◌, ◌>>◌, parsed_map, literal, repeat, list_of, ws, past, is_space, front, begins, repeat-goes, repeat-ends, BinaryOp, and_op, or_op, UnaryOp, plus, minus, Step, root, current, filter, whole_expression, Steps, no_steps, step, Expression, binary, unary, exists, spaced, binary_atom, joined_by, path_with, group_with, exists_with, atom_with, and_with, or_with, expression, filter_with, step_text, steps_text, expression_text, side_text, needs_parentheses, operator_text, sign_text, joins, unary_atom, unary_operator}
use Rattle.std.proofs.lemmas.List.{append-nil}
use Rattle.jsonb.proofs.Bounds.{expression-rule}
use Rattle.jsonb.proofs.SettledPaths.{settled_step, settled_steps, settled}
use Rattle.jsonb.proofs.PathShape.{IsInner, IsOperand, is_signed, IsPathStep, ArePathSteps, IsCondition}
use Rattle.jsonb.proofs.InnerReadsBack.{past-none, past-space, spaced-reads, spaced-none, is_step_end}
use Rattle.jsonb.proofs.OperandReadsBack.{ReadsTo, length-past, reads_to_rest, reads_past_rest, is_inner_start, spaced_inner-none, spaced_inner-text, IsBehindOperand, steps_list, steps_of-steps_list, is_operand_start, path_root-text, settled-beginning, begins-beginning, begins-as_operand, unsigned_operand, settled-inner, spaced_operand-none, unary-none, behind_operator, binary-text, spaced_operand-text}

-- ---- lists of one and of two

list-single : {A : Type 0} (rule : Rule A) (separator : Rule (Unit {0})) (input : List ℕ) (a : A) (rest : List ℕ) →
    ReadsTo rule input a rest → separator (past is_space rest) ≡ None → ReadsTo (list_of rule (spaced separator)) input (a ∷ []) rest
list-single rule separator input a rest r h =
    let ends : (spaced separator >> rule) r.after ≡ None = rw (spaced-none separator r.after (rw r.same h)) refl in
    record { after = r.after; reads = rw (r.reads, repeat-ends (spaced separator >> rule) r.after ends) refl; same = r.same; no_longer = r.no_longer }

list-pair : {A : Type 0} (rule : Rule A) (separator : Rule (Unit {0})) (input : List ℕ) (a b : A) (between middle rest : List ℕ) →
    ReadsTo rule input a between → separator (past is_space between) ≡ Some (tt, middle) → ReadsTo rule (past is_space middle) b rest → length rest
    < length (past is_space between) → separator (past is_space rest) ≡ None → ReadsTo (list_of rule (spaced separator)) input (a ∷ b ∷ []) rest
list-pair {A} rule separator input a b between middle rest r s t short h =
    let again : (spaced separator >> rule) r.after ≡ Some (b, t.after) = rw (spaced-reads separator r.after tt middle (rw r.same s), t.reads) refl in
    let ends : (spaced separator >> rule) t.after ≡ None = rw (spaced-none separator t.after (rw t.same h)) refl in
    let shorter : length t.after < length r.after =
    omega (arith, t.no_longer, short, length-past is_space r.after, ap (λ (xs : List ℕ). length xs) r.same) in
    let all : repeat (spaced separator >> rule) r.after ≡ Some (b ∷ [], t.after) =
    repeat-goes (spaced separator >> rule) r.after b t.after again shorter
    ∙ ap (parsed_map (λ (others : List A). b ∷ others)) (repeat-ends (spaced separator >> rule) t.after ends) in
    record { after = t.after; reads = rw (r.reads, all) refl; same = t.same; no_longer = t.no_longer }

and-joined : (f : Bool) (input : List ℕ) (members : List Expression) (rest : List ℕ) →
    ReadsTo (list_of (atom_with expression f) (spaced (literal "&&"))) input members rest →
    ReadsTo (and_with expression f) input (joined_by and_op members) rest
unfolding and_with
and-joined f input members rest l = record { after = l.after; reads = rw l.reads refl; same = l.same; no_longer = l.no_longer }

or-joined : (f : Bool) (input : List ℕ) (members : List Expression) (rest : List ℕ) →
    ReadsTo (list_of (and_with expression f) (spaced (literal "||"))) input members rest → ReadsTo (expression f) input (joined_by or_op members) rest
unfolding or_with
or-joined f input members rest l =
    record { after = l.after; reads = rw (expression-rule f input, l.reads) refl; same = l.same; no_longer = l.no_longer }

and-single : (f : Bool) (input : List ℕ) (e : Expression) (rest : List ℕ) → ReadsTo (atom_with expression f) input e rest →
    literal "&&" (past is_space rest) ≡ None → ReadsTo (and_with expression f) input e rest
and-single f input e rest r h = and-joined f input (e ∷ []) rest (list-single (atom_with expression f) (literal "&&") input e rest r h)

or-single : (f : Bool) (input : List ℕ) (e : Expression) (rest : List ℕ) → ReadsTo (and_with expression f) input e rest →
    literal "||" (past is_space rest) ≡ None → ReadsTo (expression f) input e rest
or-single f input e rest r h = or-joined f input (e ∷ []) rest (list-single (and_with expression f) (literal "||") input e rest r h)

-- ---- what follows

abbrev pub is_close : ℕ → Bool
is_close b = b == 41

pub no_space-close : (rest : List ℕ) → front is_close rest ≡ true → past is_space rest ≡ rest
no_space-close rest h = past-none is_space rest (grind (arith, nat_tests))

behind_close : (rest : List ℕ) → front is_close rest ≡ true → IsBehindOperand rest
behind_close rest h = (grind (arith, nat_tests), rw (no_space-close rest h) (grind (arith, nat_tests)))

no_and-close : (rest : List ℕ) → front is_close rest ≡ true → literal "&&" (past is_space rest) ≡ None
no_and-close rest h = rw (no_space-close rest h) (grind (arith, nat_tests))

no_or-close : (rest : List ℕ) → front is_close rest ≡ true → literal "||" (past is_space rest) ≡ None
no_or-close rest h = rw (no_space-close rest h) (grind (arith, nat_tests))

-- ---- the text, bracketed to the right

abbrev side : Expression → List ℕ
side e = side_text e (expression_text e)

binary-shown : (op : BinaryOp) (left right : Expression) (rest : List ℕ) →
    expression_text (binary op left right) ++ rest ≡ side left ++ (32 ∷ operator_text op ++ (32 ∷ side right ++ rest))
binary-shown op left right rest = simp append_assoc

side-joined : (e : Expression) (rest : List ℕ) → needs_parentheses e ≡ true → side e ++ rest ≡ 40 ∷ expression_text e ++ (41 ∷ rest)
side-joined e rest h = rw h (append_assoc (40 ∷ expression_text e) (41 ∷ []) rest)

side-operand : (f : Bool) (e : Expression) → IsOperand f e → side e ≡ expression_text e
side-operand f e is = grind arith

-- ---- how expressions begin

abbrev pub is_condition_start : ℕ → Bool
is_condition_start b = b == 40 || b == 101 || is_operand_start b

begins-sign : (op : UnaryOp) (rest : List ℕ) → begins is_condition_start (sign_text op ++ rest) ≡ true
begins-sign plus rest = refl
begins-sign minus rest = refl

begins-side : (e : Expression) (rest : List ℕ) → begins is_condition_start (expression_text e ++ rest) ≡ true →
    begins is_condition_start (side e ++ rest) ≡ true
begins-side e rest h = grind arith

begins-condition : (f : Bool) (e : Expression) (rest : List ℕ) → IsCondition f e → begins is_condition_start (expression_text e ++ rest) ≡ true
begins-condition f (binary op left right) rest is =
    let tail = 32 ∷ operator_text op ++ (32 ∷ side right ++ rest) in
    rw (binary-shown op left right rest) (begins-side left tail (go tail (begins-condition f left tail) (joins op) is)) where
      go : (tail : List ℕ) → (IsCondition f left → begins is_condition_start (expression_text left ++ tail) ≡ true) → (t : Bool) →
          MatchBool t (IsCondition f left × IsCondition f right) ((is_signed left ≡ false) × IsOperand f left × IsOperand f right) →
          begins is_condition_start (expression_text left ++ tail) ≡ true
      go tail ih true is' = ih is'.0
      go tail ih false is' = let starts = begins-as_operand f left tail is'.1 in grind (arith, nat_tests)
begins-condition f (unary op e) rest is = rw (append_assoc (sign_text op) (expression_text e) rest) (begins-sign op (expression_text e ++ rest))
begins-condition f (exists ss) rest is = refl
begins-condition f _ rest is = absurd is

pub no_space-condition : (f : Bool) (e : Expression) (rest : List ℕ) → IsCondition f e → past is_space (expression_text e ++ rest) ≡ expression_text e ++ rest
no_space-condition f e rest is = let starts = begins-condition f e rest is in past-none is_space (expression_text e ++ rest) (grind (arith, nat_tests))

-- ---- what is proved of each part

abbrev pub ConditionReads : Expression → Type 0
ConditionReads e = (f : Bool) (rest : List ℕ) → IsCondition f e → front is_close rest ≡ true →
    ReadsTo (expression f) (expression_text e ++ rest) (settled e) rest

abbrev pub AtomReads : Expression → Type 0
AtomReads e = (f : Bool) (rest : List ℕ) → IsCondition f e → IsBehindOperand rest →
    ReadsTo (atom_with expression f) (side e ++ rest) (settled e) rest

abbrev pub StepReads : Step → Type 0
StepReads s = (rest : List ℕ) → IsPathStep s → front is_step_end rest ≡ true →
    path_with expression (step_text s ++ rest) ≡ Some (settled_step s, past is_space rest)

abbrev pub StepsRead : Steps → Type 0
StepsRead ss = (rest : List ℕ) → ArePathSteps ss → front is_close rest ≡ true →
    repeat (path_with expression) (steps_text ss ++ rest) ≡ Some (steps_list (settled_steps ss), rest)

-- ---- one atom alone, and two

single-condition : (e : Expression) → needs_parentheses e ≡ false → AtomReads e → ConditionReads e
single-condition e j atom f rest is h =
    let r : ReadsTo (atom_with expression f) (expression_text e ++ rest) (settled e) rest = rw j at atom f rest is (behind_close rest h) in
    or-single f (expression_text e ++ rest) (settled e) rest
    (and-single f (expression_text e ++ rest) (settled e) rest r (no_and-close rest h)) (no_or-close rest h)

-- what follows the left side
abbrev behind_left : BinaryOp → Expression → List ℕ → List ℕ
behind_left op right rest = 32 ∷ operator_text op ++ (32 ∷ side right ++ rest)

-- the left side is read up to the operator, and the right one after it
sides_read : (op : BinaryOp) (left right : Expression) → AtomReads left → AtomReads right → (f : Bool) (rest : List ℕ) →
    IsCondition f left → IsCondition f right → front is_close rest ≡ true →
    ReadsTo (atom_with expression f) (side left ++ behind_left op right rest) (settled left) (behind_left op right rest)
    × ReadsTo (atom_with expression f) (past is_space (32 ∷ side right ++ rest)) (settled right) rest
sides_read op left right l r f rest is_left is_right h =
    let starts = begins-side right rest (begins-condition f right rest is_right) in
    let first = l f (behind_left op right rest) is_left (behind_operator op (32 ∷ side right ++ rest)).0 in
    (first, rw (past-space (side right ++ rest) (grind (arith, nat_tests))) (r f rest is_right (behind_close rest h)))

not_joined : false ≡ true → ⊥
not_joined e = cc

joined-condition : (op : BinaryOp) (left right : Expression) → joins op ≡ true → AtomReads left → AtomReads right → ConditionReads (binary op left right)
joined-condition and_op left right j l r f rest is h =
    let sides = sides_read and_op left right l r f rest is.0 is.1 h in
    let input = side left ++ behind_left and_op right rest in
    let pair = list-pair (atom_with expression f) (literal "&&") input (settled left) (settled right) (behind_left and_op right rest)
    (32 ∷ side right ++ rest) rest sides.0 refl sides.1 (omega (arith, length-append (side right) rest)) (no_and-close rest h) in
    rw (binary-shown and_op left right rest) (or-single f input (binary and_op (settled left) (settled right)) rest
    (and-joined f input (settled left ∷ settled right ∷ []) rest pair) (no_or-close rest h))
joined-condition or_op left right j l r f rest is h =
    let sides = sides_read or_op left right l r f rest is.0 is.1 h in
    let input = side left ++ behind_left or_op right rest in
    let first = and-single f input (settled left) (behind_left or_op right rest) sides.0 refl in
    let second = and-single f (past is_space (32 ∷ side right ++ rest)) (settled right) rest sides.1 (no_and-close rest h) in
    let pair = list-pair (and_with expression f) (literal "||") input (settled left) (settled right) (behind_left or_op right rest)
    (32 ∷ side right ++ rest) rest first refl second (omega (arith, length-append (side right) rest)) (no_or-close rest h) in
    rw (binary-shown or_op left right rest) (or-joined f input (settled left ∷ settled right ∷ []) rest pair)
joined-condition _ left right j l r f rest is h = absurd (not_joined j)

-- ---- the atoms

pub binary-none : (f : Bool) (input : List ℕ) → begins is_operand_start (past is_space input) ≡ false → binary_atom f input ≡ None
unfolding binary_atom
binary-none f input h = rw (spaced_operand-none f input h) refl

group-atom : (e : Expression) → needs_parentheses e ≡ true → ConditionReads e → AtomReads e
unfolding atom_with group_with ws
group-atom e j condition f rest is h =
    let input = 40 ∷ expression_text e ++ (41 ∷ rest) in
    let r = condition f (41 ∷ rest) is refl in
    rw (side-joined e rest j) (reads_to_rest (atom_with expression f) input (settled e) rest
    (rw (unary-none f input refl, binary-none f input refl, no_space-condition f e (41 ∷ rest) is, r.reads, r.same) refl))

unary_atom-reads : (op : UnaryOp) (e : Expression) → AtomReads (unary op e)
unfolding atom_with unary_atom unary_operator
unary_atom-reads op e = grind (arith, reads_past_rest, settled, spaced_operand-text)

binary_atom-reads : (op : BinaryOp) (left right : Expression) → joins op ≡ false → AtomReads (binary op left right)
unfolding atom_with
binary_atom-reads op left right j = grind (arith, binary-shown, side-operand, reads_past_rest, settled, unary-none, unsigned_operand, binary-text)

exists_atom-reads : (s : Step) (ss : Steps) → StepsRead ss → AtomReads (exists (step s ss))
unfolding atom_with group_with exists_with ws
exists_atom-reads s ss steps f rest is h =
    let tail = steps_text ss ++ (41 ∷ rest) in
    let input = codes "exists(" ++ (step_text s ++ tail) in
    let shown : expression_text (exists (step s ss)) ++ rest ≡ input = simp append_assoc in
    let starts = begins-beginning true s tail is.0 in
    rw shown (reads_to_rest (atom_with expression f) input (settled (exists (step s ss))) rest
    (rw (unary-none f input refl, binary-none f input refl, past-none is_space (step_text s ++ tail) (grind (arith, nat_tests)))
    (rw (path_root-text true s tail is.0, steps (41 ∷ rest) is.1 refl, steps_of-steps_list (settled_steps ss), settled-beginning true s is.0) refl)))

-- ---- steps

filter-text : (e : Expression) → ConditionReads e → (rest : List ℕ) → IsCondition true e →
    (filter_with expression >>= λ e'. give (filter e')) (63 ∷ 40 ∷ expression_text e ++ (41 ∷ rest)) ≡ Some (filter (settled e), rest)
unfolding group_with ws
filter-text e condition rest is =
    let r = condition true (41 ∷ rest) is refl in rw (no_space-condition true e (41 ∷ rest) is, r.reads, r.same) refl

filter_step-reads : (e : Expression) → ConditionReads e → StepReads (filter e)
unfolding path_with
filter_step-reads e condition rest is h =
    let input = 63 ∷ 40 ∷ expression_text e ++ (41 ∷ rest) in
    let shown : step_text (filter e) ++ rest ≡ input = append_assoc (63 ∷ 40 ∷ expression_text e) (41 ∷ []) rest in
    rw (shown, spaced_inner-none input refl)
    (spaced-reads (filter_with expression >>= λ e'. give (filter e')) input (filter (settled e)) rest (filter-text e condition rest is))

inner_step-reads : (s : Step) → (IsPathStep s → IsInner s) → StepReads s
unfolding path_with
inner_step-reads s as_inner rest is h = rw (spaced_inner-text s rest (as_inner is) h, settled-inner s (as_inner is)) refl

abbrev pub is_step_start : ℕ → Bool
is_step_start b = is_inner_start b || b == 63

begins-step : (s : Step) (rest : List ℕ) → IsPathStep s → begins is_step_start (step_text s ++ rest) ≡ true
begins-step root rest is = absurd is
begins-step current rest is = absurd is
begins-step (whole_expression e) rest is = absurd is
begins-step _ rest is = refl

-- what steps begin with, or what ends them
pub front-steps : (ss : Steps) (rest : List ℕ) → ArePathSteps ss → (test : ℕ → Bool) → ((b : ℕ) → is_step_start b ≡ true → test b ≡ true) →
    front test rest ≡ true → front test (steps_text ss ++ rest) ≡ true
front-steps no_steps rest are test implies h = h
front-steps (step s ss) rest are test implies h =
    let starts = begins-step s (steps_text ss ++ rest) are.0 in rw (append_assoc (step_text s) (steps_text ss) rest) (grind (arith, implies))

no_step : (rest : List ℕ) → front is_close rest ≡ true → path_with expression rest ≡ None
unfolding path_with group_with ws
no_step rest h = grind (arith, no_space-close, spaced_inner-none, nat_tests)

steps-more : (s : Step) (ss : Steps) → StepReads s → StepsRead ss → StepsRead (step s ss)
steps-more s ss one more rest are h =
    let tail = steps_text ss ++ rest in
    let starts : begins is_step_start (step_text s ++ []) ≡ true = begins-step s [] are.0 in
    let some : 0 < length (step_text s) = grind (arith, append-nil) in
    let behind : front (λ b. is_step_start b || is_close b) tail ≡ true =
    front-steps ss rest are.1 (λ b. is_step_start b || is_close b) (λ b e. grind (arith, nat_tests)) (grind (arith, nat_tests)) in
    let here : path_with expression (step_text s ++ tail) ≡ Some (settled_step s, tail) =
    one tail are.0 (grind (arith, nat_tests)) ∙ ap (λ (left : List ℕ). Some (settled_step s, left)) (past-none is_space tail (grind (arith, nat_tests))) in
    rw (append_assoc (step_text s) (steps_text ss) rest)
    (repeat-goes (path_with expression) (step_text s ++ tail) (settled_step s) tail here (omega (arith, length-append (step_text s) tail))
    ∙ ap (parsed_map (λ (others : List Step). settled_step s ∷ others)) (more rest are.1 h))

-- ---- all of it

binary-reads : (op : BinaryOp) (left right : Expression) → AtomReads left → AtomReads right →
    ConditionReads (binary op left right) × AtomReads (binary op left right)
binary-reads op left right l r = go (joins op) refl where
  go : (t : Bool) → joins op ≡ t → ConditionReads (binary op left right) × AtomReads (binary op left right)
  go true j = let condition = joined-condition op left right j l r in (condition, group-atom (binary op left right) j condition)
  go false j = let atom = binary_atom-reads op left right j in (single-condition (binary op left right) j atom, atom)

mutual
  pub expression-reads : (e : Expression) → ConditionReads e × AtomReads e
  expression-reads (binary op left right) = binary-reads op left right (expression-reads left).1 (expression-reads right).1
  expression-reads (unary op e) = (single-condition (unary op e) refl (unary_atom-reads op e), unary_atom-reads op e)
  expression-reads (exists (step s ss)) =
      let atom = exists_atom-reads s ss (steps-read ss) in (single-condition (exists (step s ss)) refl atom, atom)
  expression-reads _ = (λ f rest is. absurd is, λ f rest is. absurd is)

  pub step-reads : (s : Step) → StepReads s
  step-reads (filter e) = filter_step-reads e (expression-reads e).0
  step-reads s = inner_step-reads s (λ is. is)

  pub steps-read : (ss : Steps) → StepsRead ss
  steps-read no_steps = λ rest are h. repeat-ends (path_with expression) rest (no_step rest h)
  steps-read (step s ss) = steps-more s ss (step-reads s) (steps-read ss)
