-- Printed operands, signs and comparisons, read with anything after them that may be there.
use Rattle.jsonb.proofs.Common.{◌≡◌, ℕ, suc, ◌<◌, ◌≤◌, ◌^◌, ◌/◌, List, [], ◌∷◌, ◌++◌, length, Bool, true, false, Some, None, refl, ◌∙◌, ap, arith, append_assoc, length-append, length-drop, pos, negsuc, ◌==◌, ◌&&◌, ◌||◌, prefix_len, is_ascii_digit, decimal, signed_decimal, nat_tests, Rule, parsed_map, repeat, past, is_space, natural_below, front, begins, begins-decimal, is_number_start, is_sign, natural_below-decimal, natural_below-none, integer_within-signed_decimal, integer_within-none, quoted-quoted_text, quoted-none, repeat-goes, repeat-ends, Int64, UInt64, Literal, boolean, number, string, BinaryOp, and_op, or_op, Step, root, current, filter, whole_expression, Steps, no_steps, step, Expression, paths, value, binary, steps_of, spaced, inner, wildcard, named_field, bracket_field, entries, spaced_inner, path_root, literal_value, operand, spaced_operand, operator, arithmetic_operator, unary_operator, unary_atom, binary_atom, step_text, steps_text, expression_text, literal_text, operator_text, joins, settled_literal}
use Rattle.std.proofs.lemmas.List.{append-nil}
use Rattle.jsonb.specs.PathTree.{null}
use Rattle.jsonb.proofs.SettledPaths.{settled_step, settled_steps, settled}
use Rattle.jsonb.proofs.PathShape.{IsInner, AreInner, IsBeginning, IsLiteral, IsOperand, is_signed, is_signed_literal}
use Rattle.jsonb.proofs.InnerReadsBack.{past-none, past-space, spaced-reads, spaced-none, past-stops, is_step_end, inner-text}

-- The rule reads the value, and what it leaves is the rest except for spaces at the front.
pub record ReadsTo {A : Type 0} (rule : Rule A) (input : List ℕ) (a : A) (rest : List ℕ) : Type 0 where
  pub after : List ℕ
  pub reads : rule input ≡ Some (a, after)
  pub same : past is_space after ≡ past is_space rest
  pub no_longer : length after ≤ length rest

pub length-past : (test : ℕ → Bool) (input : List ℕ) → length (past test input) ≤ length input
length-past test input = omega (arith, length-drop (prefix_len test input) input)

pub reads_to_rest : {A : Type 0} (rule : Rule A) (input : List ℕ) (a : A) (rest : List ℕ) → rule input ≡ Some (a, rest) → ReadsTo rule input a rest
reads_to_rest rule input a rest e = record { after = rest; reads = e; same = refl; no_longer = omega arith }

pub reads_past_rest : {A : Type 0} (rule : Rule A) (input : List ℕ) (a : A) (rest : List ℕ) → rule input ≡ Some (a, past is_space rest) →
    ReadsTo rule input a rest
reads_past_rest rule input a rest e = grind (arith, length-past, past-none, past-stops)

pub spaced-to : {A : Type 0} (rule : Rule A) (input : List ℕ) (a : A) (rest : List ℕ) → ReadsTo rule (past is_space input) a rest →
    spaced rule input ≡ Some (a, past is_space rest)
spaced-to rule input a rest r = spaced-reads rule input a r.after r.reads ∙ ap (λ (left : List ℕ). Some (a, left)) r.same

-- ---- steps after one another

abbrev pub is_inner_start : ℕ → Bool
is_inner_start b = b == 46 || b == 58 || b == 91

pub spaced_inner-none : (input : List ℕ) → begins is_inner_start (past is_space input) ≡ false → spaced_inner input ≡ None
unfolding spaced_inner inner wildcard named_field entries bracket_field
spaced_inner-none input h = spaced-none inner input (grind (arith, nat_tests))

begins-inner : (s : Step) (rest : List ℕ) → IsInner s → begins is_inner_start (step_text s ++ rest) ≡ true
begins-inner root rest is = absurd is
begins-inner current rest is = absurd is
begins-inner (filter e) rest is = absurd is
begins-inner (whole_expression e) rest is = absurd is
begins-inner _ rest is = refl

no_space-inner : (s : Step) (rest : List ℕ) → IsInner s → past is_space (step_text s ++ rest) ≡ step_text s ++ rest
no_space-inner s rest is = let starts = begins-inner s rest is in past-none is_space (step_text s ++ rest) (grind (arith, nat_tests))

pub spaced_inner-text : (s : Step) (rest : List ℕ) → IsInner s → front is_step_end rest ≡ true →
    spaced_inner (step_text s ++ rest) ≡ Some (s, past is_space rest)
unfolding spaced_inner
spaced_inner-text s rest is h = spaced-reads inner (step_text s ++ rest) s rest (rw (no_space-inner s rest is) (inner-text s rest is h))

-- what may follow the steps of an operand: not another step
abbrev pub IsBehindInner : List ℕ → Type 0
IsBehindInner rest = (front is_step_end rest ≡ true) × (begins is_inner_start (past is_space rest) ≡ false)

abbrev pub is_operand_end : ℕ → Bool
is_operand_end b = b == 32 || b == 41

-- after an operand: a space, a parenthesis or the end, and no further step
abbrev pub IsBehindOperand : List ℕ → Type 0
IsBehindOperand rest = (front is_operand_end rest ≡ true) × (begins is_inner_start (past is_space rest) ≡ false)

abbrev pub steps_list : Steps → List Step
steps_list no_steps = []
steps_list (step s ss) = s ∷ steps_list ss

pub steps_of-steps_list : (ss : Steps) → steps_of (steps_list ss) ≡ ss
steps_of-steps_list no_steps = refl
steps_of-steps_list (step s ss) = ap (λ (more : Steps). step s more) (steps_of-steps_list ss)

front-inners : (ss : Steps) (rest : List ℕ) → AreInner ss → front is_step_end rest ≡ true → front is_step_end (steps_text ss ++ rest) ≡ true
front-inners no_steps rest are h = h
front-inners (step s ss) rest are h =
    let starts = begins-inner s (steps_text ss ++ rest) are.0 in rw (append_assoc (step_text s) (steps_text ss) rest) (grind (arith, nat_tests))

-- the steps, after spaces or not
pub inners-text : (ss : Steps) (rest input : List ℕ) → AreInner ss → IsBehindInner rest → past is_space input ≡ past is_space (steps_text ss ++ rest) →
    length input ≤ length (steps_text ss ++ rest) → ReadsTo (repeat spaced_inner) input (steps_list ss) rest
unfolding spaced_inner
inners-text no_steps rest input are h same short =
    record { after = input; reads = repeat-ends spaced_inner input (spaced_inner-none input (rw same h.1)); same = same; no_longer = short }
inners-text (step s ss) rest input are h same short =
    let tail = steps_text ss ++ rest in
    let more = inners-text ss rest (past is_space tail) are.1 h ((past-none is_space (past is_space tail) (past-stops is_space tail))) (length-past is_space tail) in
    let front : past is_space input ≡ step_text s ++ tail = rw (append_assoc (step_text s) (steps_text ss) rest) at same ∙ no_space-inner s tail are.0 in
    let here : spaced_inner input ≡ Some (s, past is_space tail) =
    spaced-reads inner input s tail (rw front (inner-text s tail are.0 (front-inners ss rest are.1 h.0))) in
    let starts : begins is_inner_start (step_text s ++ []) ≡ true = begins-inner s [] are.0 in
    let some : 0 < length (step_text s) = grind (arith, append-nil) in
    let shorter : length (past is_space tail) < length input =
    omega (arith, length-append (step_text s) tail, length-past is_space tail, length-past is_space input, ap (λ (xs : List ℕ). length xs) front) in
    record {
      after = more.after;
      reads = repeat-goes spaced_inner input s (past is_space tail) here shorter ∙ ap (parsed_map (λ (others : List Step). s ∷ others)) more.reads;
      same = more.same;
      no_longer = more.no_longer;
    }

pub settled-inner : (s : Step) → IsInner s → settled_step s ≡ s
settled-inner s is = grind arith

settled-inners : (ss : Steps) → AreInner ss → settled_steps ss ≡ ss
settled-inners no_steps are = refl
settled-inners (step s ss) are = rw (settled-inner s are.0, settled-inners ss are.1) refl

-- ---- literals

pub literal-digits : (input rest : List ℕ) (n : ℕ) → begins is_ascii_digit input ≡ true → natural_below (2 ^ 64) input ≡ Some (n, rest) →
    literal_value input ≡ Some (number (UInt64 n), rest)
unfolding literal_value
literal-digits input rest n h e = grind (arith, nat_tests)

-- the text of an integer
whole_text : (n : ℕ) → decimal (n / 1) ++ [] ≡ decimal n
whole_text n = append-nil (decimal (n / 1)) ∙ ap decimal (omega arith)

literal-unsigned : (n : ℕ) (rest : List ℕ) → n < 2 ^ 64 → front is_operand_end rest ≡ true → literal_value (decimal n ++ rest) ≡ Some (number (UInt64 n), rest)
literal-unsigned n rest fits h = literal-digits (decimal n ++ rest) rest n (begins-decimal n rest fits)
    (natural_below-decimal (2 ^ 64) n rest (omega arith) (grind (arith, nat_tests)) (grind (arith, nat_tests)))

literal-text : (l : Literal) (rest : List ℕ) → IsLiteral l → front is_operand_end rest ≡ true →
    literal_value (literal_text l ++ rest) ≡ Some (settled_literal l, rest)
unfolding literal_value
literal-text null rest is h = refl
literal-text (boolean true) rest is h = refl
literal-text (boolean false) rest is h = refl
literal-text (number (UInt64 n)) rest is h = rw (whole_text n) (literal-unsigned n rest (grind (arith, nat_tests)) h)
literal-text (number (Int64 (pos n))) rest is h = rw (whole_text n) (literal-unsigned n rest (grind (arith, nat_tests)) h)
literal-text (number (Int64 (negsuc n))) rest is h = rw (whole_text (suc n), natural_below-none (2 ^ 64) (signed_decimal (negsuc n) ++ rest) refl)
    (rw (integer_within-signed_decimal (2 ^ 63) (negsuc n) rest (omega arith) is (grind (arith, nat_tests))) refl)
literal-text (string text) rest is h = grind (arith, natural_below-none, integer_within-none, quoted-quoted_text)
literal-text _ rest is h = absurd is

-- ---- operands

abbrev is_literal_start : ℕ → Bool
is_literal_start b = b == 110 || b == 116 || b == 102 || b == 34 || is_number_start b

abbrev pub is_path_root : ℕ → Bool
is_path_root b = b == 36 || b == 64

abbrev pub is_operand_start : ℕ → Bool
is_operand_start b = is_path_root b || is_literal_start b

-- how the text of a literal begins, one with a sign or not
abbrev is_text_start : Bool → ℕ → Bool
is_text_start is_signed b = b == 110 || b == 116 || b == 102 || b == 34 || is_ascii_digit b || (is_signed && b == 45)

pub path_root-none : (f : Bool) (input : List ℕ) → begins is_path_root input ≡ false → path_root f input ≡ None
unfolding path_root
path_root-none f input h = grind (arith, nat_tests)

literal_value-none : (input : List ℕ) → begins is_literal_start input ≡ false → literal_value input ≡ None
unfolding literal_value
literal_value-none input h =
    let natural = natural_below-none (2 ^ 64) input (grind (arith, nat_tests)) in
    let integer = integer_within-none (2 ^ 63) input (grind (arith, nat_tests)) in
    let quoted = quoted-none input (grind (arith, nat_tests)) in grind (arith, nat_tests)

operand-none : (f : Bool) (input : List ℕ) → begins is_operand_start input ≡ false → operand f input ≡ None
unfolding operand
operand-none f input h = rw (path_root-none f input (grind (arith, nat_tests)), literal_value-none input (grind (arith, nat_tests))) refl

pub path_root-text : (f : Bool) (s : Step) (rest : List ℕ) → IsBeginning f s → path_root f (step_text s ++ rest) ≡ Some (s, rest)
unfolding path_root
path_root-text f root rest is = refl
path_root-text f current rest is = rw is refl
path_root-text f _ rest is = absurd is

pub settled-beginning : (f : Bool) (s : Step) → IsBeginning f s → settled_step s ≡ s
settled-beginning f root is = refl
settled-beginning f current is = refl
settled-beginning f _ is = absurd is

pub begins-beginning : (f : Bool) (s : Step) (rest : List ℕ) → IsBeginning f s → begins is_path_root (step_text s ++ rest) ≡ true
begins-beginning f root rest is = refl
begins-beginning f current rest is = refl
begins-beginning f _ rest is = absurd is

begins-literal : (l : Literal) (rest : List ℕ) → IsLiteral l → begins (is_text_start (is_signed_literal l)) (literal_text l ++ rest) ≡ true
begins-literal null rest is = refl
begins-literal (boolean true) rest is = refl
begins-literal (boolean false) rest is = refl
begins-literal (number (UInt64 n)) rest is =
    let starts = begins-decimal n rest (grind (arith, nat_tests)) in rw (whole_text n) (grind (arith, nat_tests))
begins-literal (number (Int64 (pos n))) rest is =
    let starts = begins-decimal n rest (grind (arith, nat_tests)) in rw (whole_text n) (grind (arith, nat_tests))
begins-literal (number (Int64 (negsuc n))) rest is = refl
begins-literal (string text) rest is = refl
begins-literal _ rest is = absurd is

operand-steps : (f : Bool) (s : Step) (ss : Steps) (input rest after : List ℕ) → path_root f input ≡ Some (s, rest) →
    repeat spaced_inner rest ≡ Some (steps_list ss, after) → operand f input ≡ Some (paths (step s ss), after)
unfolding operand
operand-steps f s ss input rest after first others = rw (first, others, steps_of-steps_list ss) refl

pub operand-text : (f : Bool) (e : Expression) (rest : List ℕ) → IsOperand f e → IsBehindOperand rest →
    ReadsTo (operand f) (expression_text e ++ rest) (settled e) rest
unfolding operand
operand-text f (paths (step s ss)) rest is h =
    let inners = inners-text ss rest (steps_text ss ++ rest) is.1 (grind (arith, nat_tests), h.1) refl (omega arith) in
    record {
      after = inners.after;
      reads = rw (append_assoc (step_text s) (steps_text ss) rest, settled-beginning f s is.0, settled-inners ss is.1)
          (operand-steps f s ss _ (steps_text ss ++ rest) inners.after (path_root-text f s (steps_text ss ++ rest) is.0) inners.reads);
      same = inners.same;
      no_longer = inners.no_longer;
    }
operand-text f (value l) rest is h =
    let starts = begins-literal l rest is in
    reads_to_rest (operand f) (literal_text l ++ rest) (value (settled_literal l)) rest
    (rw (path_root-none f (literal_text l ++ rest) (grind (arith, nat_tests)), literal-text l rest is h.0) refl)
operand-text f _ rest is h = absurd is

begins-operand : (f : Bool) (e : Expression) (rest : List ℕ) → IsOperand f e →
    begins (λ b. is_path_root b || is_text_start (is_signed e) b) (expression_text e ++ rest) ≡ true
begins-operand f (paths (step s ss)) rest is =
    let starts = begins-beginning f s (steps_text ss ++ rest) is.0 in rw (append_assoc (step_text s) (steps_text ss) rest) (grind (arith, nat_tests))
begins-operand f (value l) rest is = let starts = begins-literal l rest is in grind (arith, nat_tests)
begins-operand f _ rest is = absurd is

pub begins-as_operand : (f : Bool) (e : Expression) (rest : List ℕ) → IsOperand f e → begins is_operand_start (expression_text e ++ rest) ≡ true
begins-as_operand f e rest is = let starts = begins-operand f e rest is in grind (arith, nat_tests)

-- no sign before what may be a left side
pub unsigned_operand : (f : Bool) (e : Expression) (rest : List ℕ) → IsOperand f e → is_signed e ≡ false → begins is_sign (expression_text e ++ rest) ≡ false
unsigned_operand f e rest is h = let starts = begins-operand f e rest is in grind (arith, nat_tests)

-- an operand at the front, or after a space
pub spaced_operand-text : (f : Bool) (e : Expression) (rest input : List ℕ) → past is_space input ≡ past is_space (expression_text e ++ rest) →
    IsOperand f e → IsBehindOperand rest → spaced_operand f input ≡ Some (settled e, past is_space rest)
unfolding spaced_operand
spaced_operand-text f e rest input same is h =
    let starts = begins-operand f e rest is in
    spaced-to (operand f) input (settled e) rest
    (rw (same, past-none is_space (expression_text e ++ rest) (grind (arith, nat_tests))) (operand-text f e rest is h))

pub spaced_operand-none : (f : Bool) (input : List ℕ) → begins is_operand_start (past is_space input) ≡ false → spaced_operand f input ≡ None
unfolding spaced_operand
spaced_operand-none f input h = spaced-none (operand f) input (operand-none f (past is_space input) h)

-- ---- signs and comparisons

pub unary-none : (f : Bool) (input : List ℕ) → begins is_sign input ≡ false → unary_atom f input ≡ None
unfolding unary_atom unary_operator
unary-none f input h = grind (arith, nat_tests)

joins-no : true ≡ false → ⊥
joins-no e = cc

operator-read : (op : BinaryOp) (rest : List ℕ) → joins op ≡ false → operator (operator_text op ++ 32 ∷ rest) ≡ Some (op, 32 ∷ rest)
unfolding operator arithmetic_operator
operator-read and_op rest h = absurd (joins-no h)
operator-read or_op rest h = absurd (joins-no h)
operator-read _ rest h = refl

-- an operator between spaces follows an operand, and is not a space itself
pub behind_operator : (op : BinaryOp) (rest : List ℕ) →
    IsBehindOperand (32 ∷ operator_text op ++ rest) × (past is_space (32 ∷ operator_text op ++ rest) ≡ operator_text op ++ rest)
behind_operator and_op rest = ((refl, refl), refl)
behind_operator _ rest = ((refl, refl), refl)

pub binary-text : (f : Bool) (op : BinaryOp) (left right : Expression) (rest : List ℕ) → joins op ≡ false → IsOperand f left → IsOperand f right →
    IsBehindOperand rest → binary_atom f (expression_text left ++ (32 ∷ operator_text op ++ (32 ∷ expression_text right ++ rest)))
    ≡ Some (binary op (settled left) (settled right), past is_space rest)
unfolding binary_atom
binary-text f op left right rest j l r h =
    let tail = 32 ∷ expression_text right ++ rest in
    let behind = behind_operator op tail in
    let starts = begins-operand f right rest r in
    let same : past is_space tail ≡ past is_space (expression_text right ++ rest) =
    rw (past-none is_space (expression_text right ++ rest) (grind (arith, nat_tests))) (past-space (expression_text right ++ rest) (grind (arith, nat_tests))) in
    rw (spaced_operand-text f left (32 ∷ operator_text op ++ tail) _ refl l behind.0, behind.1, operator-read op (expression_text right ++ rest) j)
    (rw (spaced_operand-text f right rest tail same r h) refl)
