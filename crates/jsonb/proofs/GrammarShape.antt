-- What the grammar makes is a path as `IsPath` says.
use Rattle.jsonb.proofs.Common.{◌≡◌, ℕ, zero, suc, ◌+◌, ◌<◌, ◌^◌, List, [], ◌∷◌, ◌++◌, length, Bool, true, false, Option, Some, None, refl, sym, ◌∙◌, arith, inl, inr, ℤ, fold, option_and_then, is_ascii_digit, same_Some, nat_tests, AllByRecursion, with_sign, Parsed, Rule, give, ◌>>=◌, ◌>>◌, ◌</>◌, optional, only_if, literal, list_of, ws, quoted, past, is_space, is_within, sign, natural, natural_below, natural_below-none, integer, integer_within, begins, nothing, Yields, IsName, yields-give, yields-then, yields-behind, yields-choice, yields-repeat, yields-list_of, yields-integer_within, yields-natural_below, yields-name, yields-quoted, Int64, UInt64, LevelEnd, Entry, Levels, Literal, number, BinaryOp, and_op, or_op, eq, not_eq, lt, lte, gt, gte, starts_with_op, add, subtract, multiply, divide, modulo, Step, filter, Expression, paths, value, binary, steps_of, spaced, last_and, place, entry, level_end, levels, field, entries, wildcard, named_field, bracket_field, inner, spaced_inner, path_root, literal_value, operand, spaced_operand, operator, arithmetic_operator, unary_operator, unary_atom, binary_atom, joined_by, path_with, group_with, exists_with, atom_with, and_with, or_with, nested_or, expression, root_expression, first_step, front_steps, path_step, plain_path, json_path, joins, whole-some, IfSome, String}
use Rattle.jsonb_keypath.proofs.ReadsLemmas.{parts}
use Rattle.jsonb.specs.PathGrammar.{negated}
use Rattle.jsonb.proofs.PathShape.{IsLevelEnd, IsIndex, IsPlace, IsEntry, AreLevels, IsLiteral, IsInner, AreInner, IsBeginning, IsOperand, is_signed, is_signed_literal, IsPathStep, ArePathSteps, IsExistsPath, IsCondition, IsPath}
use Rattle.jsonb.proofs.InnerReadsBack.{past-stops, past-none, spaced-reads}
use Rattle.jsonb.proofs.OperandReadsBack.{path_root-none, literal-digits}

-- ---- what a rule yields, by its parts

given : {A : Type 0} {a : A} (P : A → Type 0) → P a → Yields P (give a)
given {a = a} P is = yields-give P a is

either : {A : Type 0} {P : A → Type 0} {first second : Rule A} → Yields P first → Yields P second → Yields P (first </> second)
either {P = P} h k = yields-choice P _ _ h k

followed : {A B : Type 0} {P : A → Type 0} {Q : B → Type 0} {rule : Rule A} {next : A → Rule B} → Yields P rule →
    ((a : A) → P a → Yields Q (next a)) → Yields Q (rule >>= next)
followed {P = P} {Q = Q} h k = yields-then P Q _ _ h k

behind : {A B : Type 0} {Q : B → Type 0} {next : A → Rule B} (rule : Rule A) → ((a : A) → Yields Q (next a)) → Yields Q (rule >>= next)
behind {Q = Q} rule k = yields-behind Q rule _ k

spaced-yields : {A : Type 0} {P : A → Type 0} {rule : Rule A} → Yields P rule → Yields P (spaced rule)
spaced-yields h = behind ws (λ _. followed h (λ a is. behind ws (λ _. given _ is)))

optional-yields : {A : Type 0} {rule : Rule A} (P : Option A → Type 0) → P None → Yields (λ a. P (Some a)) rule → Yields P (optional rule)
optional-yields P none h = either (followed h (λ a is. given _ is)) (given _ none)

-- ---- steps without expressions

negated_is_index : (i : ℤ) → IsIndex (negated i)
negated_is_index i = grind arith

last_and_is_index : (sign : String) → Yields IsIndex (last_and sign)
last_and_is_index _ = behind _ (λ _. behind ws (λ _. behind _ (λ _. behind ws (λ _. yields-integer_within (2 ^ 31)))))

place_is_place : Yields IsPlace place
unfolding place
place_is_place = either (followed (yields-integer_within (2 ^ 31)) (λ i is. given _ is))
    (either (followed (last_and_is_index "-") (λ i is. given _ (negated_is_index i)))
    (either (followed (last_and_is_index "+") (λ i is. given _ is)) (behind _ (λ _. given _ refl))))

entry_is_entry : Yields IsEntry entry
unfolding entry
entry_is_entry = either (followed place_is_place (λ first is. behind ws (λ _. behind _ (λ _. behind ws
    (λ _. followed place_is_place (λ last is'. given _ (is, is'))))))) (followed place_is_place (λ p is. given _ is))

level_end_is_end : Yields (λ (end : LevelEnd). IsLevelEnd (Some end)) level_end
level_end_is_end = behind ws (λ _. behind _ (λ _. behind ws
    (λ _. either (followed (yields-natural_below (2 ^ 8)) (λ n is. given _ is)) (behind _ (λ _. given _ tt)))))

levels_are_levels : Yields (λ (l : Levels). AreLevels (Some l)) levels
unfolding levels
levels_are_levels = behind _ (λ _. behind ws (λ _. followed (yields-natural_below (2 ^ 8)) (λ n is. followed (optional-yields IsLevelEnd tt level_end_is_end)
    (λ end is_end. behind ws (λ _. behind _ (λ _. given _ (is, is_end)))))))

wildcard_is_inner : Yields IsInner wildcard
unfolding wildcard
wildcard_is_inner = either (behind (literal ".**") (λ _. followed (optional-yields AreLevels tt levels_are_levels) (λ found are. given _ are)))
    (either (behind (literal ".*") (λ _. given _ tt))
    (behind (literal "[") (λ _. behind ws (λ _. behind (literal "*") (λ _. behind ws (λ _. behind (literal "]") (λ _. given _ tt)))))))

named_field_is_inner : Yields IsInner named_field
unfolding named_field field
named_field_is_inner = either (followed (behind {Q = IsName} (literal ":") (λ _. (either yields-quoted yields-name))) (λ text is. given _ is))
    (followed (behind {Q = IsName} (literal ".") (λ _. (either yields-quoted yields-name))) (λ text is. given _ is))

abbrev AreEntries : List Entry → Type 0
AreEntries es = (0 < length es) × AllByRecursion IsEntry es

entries_are_entries : Yields AreEntries entries
unfolding entries
entries_are_entries = behind _ (λ _. followed (yields-list_of IsEntry (spaced entry) (literal ",") (spaced-yields entry_is_entry))
    (λ es are. behind _ (λ _. given _ are)))

bracket_field_is_inner : Yields IsInner bracket_field
unfolding bracket_field
bracket_field_is_inner = behind _ (λ _. behind ws (λ _. followed yields-quoted (λ text is. behind ws (λ _. behind _ (λ _. given _ is)))))

inner_is_inner : Yields IsInner spaced_inner
unfolding spaced_inner inner
inner_is_inner = spaced-yields (either wildcard_is_inner (either named_field_is_inner
    (either (followed entries_are_entries (λ es are. given _ are)) bracket_field_is_inner)))

-- ---- operands

path_root_is_beginning : (f : Bool) → Yields (IsBeginning f) (path_root f)
unfolding path_root
path_root_is_beginning true = either (behind (literal "$") (λ _. given _ tt)) (behind (only_if true >> literal "@") (λ _. given _ refl))
path_root_is_beginning false = yields-choice (IsBeginning false) _ _ (behind (literal "$") (λ _. given _ tt)) (λ input a rest e. cc)

literal_is_literal : Yields IsLiteral literal_value
unfolding literal_value
literal_is_literal = either (behind (literal "null") (λ _. given _ tt)) (either (behind (literal "true") (λ _. given _ tt))
    (either (behind (literal "false") (λ _. given _ tt)) (either (followed (yields-natural_below (2 ^ 64)) (λ n is. given _ is))
    (either (followed (yields-integer_within (2 ^ 63)) (λ z is. given _ is)) (followed yields-quoted (λ text is. given _ is))))))

are_inner : (ss : List Step) → AllByRecursion IsInner ss → AreInner (steps_of ss)
are_inner [] are = tt
are_inner (s ∷ ss) are = (are.0, are_inner ss are.1)

operand_is_operand : (f : Bool) → Yields (IsOperand f) (operand f)
unfolding operand
operand_is_operand f = either (followed {P = λ (ss : List Step). IsOperand f (paths (steps_of ss))} (followed (path_root_is_beginning f) (λ first is.
    followed (yields-repeat IsInner spaced_inner inner_is_inner) (λ others are. given _ (is, are_inner others are)))) (λ ss is. given _ is))
    (followed literal_is_literal (λ l is. given _ is))

abbrev Compares : BinaryOp → Type 0
Compares op = joins op ≡ false

named : (text : String) (op : BinaryOp) → Compares op → Yields Compares (literal text >> give op)
named text op is = behind _ (λ _. given _ is)

operator_compares : Yields Compares operator
unfolding operator arithmetic_operator
operator_compares = either (named "==" eq refl) (either (named "!=" not_eq refl) (either (named "<>" not_eq refl)
    (either (named "<=" lte refl) (either (named "<" lt refl) (either (named ">=" gte refl)
    (either (named ">" gt refl) (either (named "starts with" starts_with_op refl) (either (named "+" add refl)
    (either (named "-" subtract refl) (either (named "*" multiply refl) (either (named "/" divide refl) (named "%" modulo refl))))))))))))

-- ---- the left side of a comparison has no sign

mapped-none : {A B : Type 0} (g : A → B) (o : Parsed A) → option_and_then (λ (p : A × List ℕ). give (g p.0) p.1) o ≡ None → o ≡ None
mapped-none g None e = refl
mapped-none g (Some p) e = cc

-- input without an operand does not begin with a natural number
no_natural : (f : Bool) (input : List ℕ) → spaced_operand f input ≡ None → natural_below (2 ^ 64) input ≡ None
unfolding spaced_operand operand
no_natural f input none = go (begins is_ascii_digit input) refl (natural_below (2 ^ 64) input) refl where
  go : (t : Bool) → begins is_ascii_digit input ≡ t → (o : Parsed ℕ) → natural_below (2 ^ 64) input ≡ o → natural_below (2 ^ 64) input ≡ None
  go false starts o e = natural_below-none (2 ^ 64) input starts
  go true starts None e = e
  go true starts (Some p) e = absurd (nothing _ _ (sym none ∙ spaced-reads (operand f) input (value (number (UInt64 p.0))) p.1
      (rw (past-none is_space input (grind (arith, nat_tests)), path_root-none f input (grind (arith, nat_tests)), literal-digits input p.1 p.0 starts e) refl)))

-- a number of 64 bits, after its sign
abbrev signed : Bool → Rule ℤ
signed negative = (natural >>= λ n. give (with_sign negative n)) >>= λ z. only_if (is_within (2 ^ 63) z) >> give z

no_integer : (f : Bool) (input : List ℕ) → unary_atom f input ≡ None → natural_below (2 ^ 64) input ≡ None → integer_within (2 ^ 63) input ≡ None
unfolding integer_within integer sign unary_atom unary_operator natural_below
no_integer f input none small = grind (arith, nat_tests, no_natural, mapped-none)

-- each value of the rule at an input of this kind has the property
abbrev YieldsWhere : {A : Type 0} → (List ℕ → Type 0) → (A → Type 0) → Rule A → Type 0
YieldsWhere {A} G P rule = (input : List ℕ) → G input → (a : A) (rest : List ℕ) → rule input ≡ Some (a, rest) → P a

anywhere : {A : Type 0} {P : A → Type 0} {rule : Rule A} (G : List ℕ → Type 0) → Yields P rule → YieldsWhere G P rule
anywhere G h input g = h input

-- the second rule counts only if the first fails
either-where : {A : Type 0} {G : List ℕ → Type 0} {P : A → Type 0} {first second : Rule A} → YieldsWhere G P first →
    YieldsWhere (λ input. G input × (first input ≡ None)) P second → YieldsWhere G P (first </> second)
either-where {A} {P = P} {first = first} {second = second} h k input g a rest e = grind arith

followed-where : {A B : Type 0} {G : List ℕ → Type 0} {P : A → Type 0} {Q : B → Type 0} {rule : Rule A} {next : A → Rule B} →
    YieldsWhere G P rule → ((a : A) → P a → Yields Q (next a)) → YieldsWhere G Q (rule >>= next)
followed-where {rule = rule} {next = next} h k input g b rest e =
    let p = parts rule next input b rest e in k p.0 (h input g p.0 p.1 p.2) p.1 b rest p.3

abbrev IsUnsigned : Literal → Type 0
IsUnsigned l = is_signed_literal l ≡ false

literal_is_unsigned : (f : Bool) → YieldsWhere (λ input. unary_atom f input ≡ None) IsUnsigned literal_value
unfolding literal_value
literal_is_unsigned f =
    either-where (anywhere _ (behind (literal "null") (λ _. given _ refl))) (either-where (anywhere _ (behind (literal "true") (λ _. given _ refl)))
    (either-where (anywhere _ (behind (literal "false") (λ _. given _ refl))) (either-where (anywhere _ (behind (natural_below (2 ^ 64)) (λ n. given _ refl)))
    (either-where {first = integer_within (2 ^ 63) >>= λ z. give (number (Int64 z))} (λ input g l rest e.
    cc (rw (no_integer f input g.0.0.0.0 (mapped-none (λ n. number (UInt64 n)) (natural_below (2 ^ 64) input) g.1)) at e))
    (anywhere _ (behind quoted (λ text. given _ refl)))))))

abbrev HasNoSign : Expression → Type 0
HasNoSign e = is_signed e ≡ false

-- the input begins with no white space
abbrev IsUnspaced : List ℕ → Type 0
IsUnspaced input = past is_space input ≡ input

past_is_unspaced : (input : List ℕ) → IsUnspaced (past is_space input)
past_is_unspaced input = past-none is_space (past is_space input) (past-stops is_space input)

ws-then : {A : Type 0} {P : A → Type 0} {rule : Rule A} → YieldsWhere IsUnspaced P rule → Yields P (ws >> rule)
unfolding ws
ws-then h input a rest e = h (past is_space input) (past_is_unspaced input) a rest e

left_has_no_sign : (f : Bool) → YieldsWhere (λ input. IsUnspaced input × (unary_atom f input ≡ None)) HasNoSign (spaced_operand f)
unfolding spaced_operand ws operand
left_has_no_sign f = grind (arith, followed-where, behind, given, either-where, anywhere, literal_is_unsigned)

-- ---- expressions

unary_is_condition : (f : Bool) → Yields (IsCondition f) (unary_atom f)
unfolding unary_atom spaced_operand
unary_is_condition f = behind _ (λ op. followed ((spaced-yields (operand_is_operand f))) (λ e is. given _ is))

comparison : (f : Bool) (op : BinaryOp) (left right : Expression) → Compares op → HasNoSign left × IsOperand f left → IsOperand f right →
    IsCondition f (binary op left right)
comparison f op left right c l r = rw c (l.0, l.1, r)

binary_is_condition : (f : Bool) → YieldsWhere (λ input. IsUnspaced input × (unary_atom f input ≡ None)) (IsCondition f) (binary_atom f)
unfolding binary_atom spaced_operand
binary_is_condition f = followed-where {P = λ (e : Expression). HasNoSign e × IsOperand f e}
    (λ input g e rest r. (left_has_no_sign f input g e rest r, (spaced-yields (operand_is_operand f)) input e rest r))
    (λ left l. followed operator_compares (λ op c. followed ((spaced-yields (operand_is_operand f))) (λ right r. given _ (comparison f op left right c l r))))

abbrev AreSteps : List Step → Type 0
AreSteps ss = ArePathSteps (steps_of ss)

are_steps : (ss : List Step) → AllByRecursion IsPathStep ss → AreSteps ss
are_steps [] are = tt
are_steps (s ∷ ss) are = (are.0, are_steps ss are.1)

inner_is_path_step : (s : Step) → IsInner s → IsPathStep s
inner_is_path_step (filter e) is = absurd is
inner_is_path_step _ is = is

spaced-then : {A B : Type 0} (P : A → Type 0) (separator : Rule B) (rule : Rule A) → YieldsWhere IsUnspaced P rule → Yields P (spaced separator >> rule)
unfolding ws
spaced-then P separator rule h = grind (arith, parts, same_Some, past_is_unspaced)

folded : (f : Bool) (op : BinaryOp) → joins op ≡ true → (first : Expression) (others : List Expression) → IsCondition f first →
    AllByRecursion (IsCondition f) others → IsCondition f (fold (λ left right. binary op left right) first others)
folded f op j first [] is are = is
folded f op j first (e ∷ others) is are = folded f op j (binary op first e) others (rw j (is, are.0)) are.1

-- a list of conditions, joined
joined-where : (f : Bool) (op : BinaryOp) (rule : Rule Expression) (text : String) → joins op ≡ true → YieldsWhere IsUnspaced (IsCondition f) rule →
    YieldsWhere IsUnspaced (IsCondition f) (list_of rule (spaced (literal text)) >>= λ members. give (joined_by op members))
joined-where f op rule text j h = followed-where {P = λ members. IsCondition f (joined_by op members)} (followed-where h
    (λ first is. followed (yields-repeat (IsCondition f) (spaced (literal text) >> rule) (spaced-then (IsCondition f) (literal text) rule h))
    (λ others are. given _ (folded f op j first others is are)))) (λ members is. given _ is)

-- with what is supposed of the rule for expressions inside parentheses
module _ (nested : Bool → Rule Expression) (h : (f : Bool) → YieldsWhere IsUnspaced (IsCondition f) (nested f)) where
  group_is_condition : (f : Bool) → Yields (IsCondition f) (group_with nested f)
  unfolding group_with
  group_is_condition f = behind _ (λ _. ws-then (followed-where (h f) (λ e is. behind ws (λ _. behind _ (λ _. given _ is)))))

  step_is_path_step : Yields IsPathStep (path_with nested)
  unfolding path_with
  step_is_path_step = either (λ input s rest e. inner_is_path_step s (inner_is_inner input s rest e))
      (spaced-yields (followed (behind {Q = IsCondition true} _ (λ _. behind ws (λ _. group_is_condition true))) (λ e is. given _ is)))

  exists_is_condition : (f : Bool) → Yields (IsCondition f) (exists_with nested)
  unfolding exists_with
  exists_is_condition f = behind _ (λ _. behind ws (λ _. behind _ (λ _. behind ws (λ _.
      followed {P = λ (ss : List Step). IsExistsPath (steps_of ss)} (followed (path_root_is_beginning true) (λ first is.
      followed (yields-repeat IsPathStep (path_with nested) step_is_path_step) (λ others are. given _ (is, are_steps others are))))
      (λ ss is. behind ws (λ _. behind _ (λ _. given _ is)))))))

  or_is_condition : (f : Bool) → YieldsWhere IsUnspaced (IsCondition f) (or_with nested f)
  unfolding or_with and_with atom_with
  or_is_condition f = joined-where f or_op _ "||" refl (joined-where f and_op _ "&&" refl
      (either-where (anywhere _ (unary_is_condition f)) (either-where (binary_is_condition f)
      (anywhere _ (either (group_is_condition f) (exists_is_condition f))))))

nested_is_condition : (n : ℕ) (f : Bool) → YieldsWhere IsUnspaced (IsCondition f) (nested_or n f)
unfolding nested_or
nested_is_condition zero f = λ input g e rest r. cc
nested_is_condition (suc n) f = or_is_condition (nested_or n) (nested_is_condition n) f

-- ---- whole paths

root_expression_is_path : Yields IsPath root_expression
unfolding root_expression expression
root_expression_is_path = followed {P = IsCondition false} (ws-then (followed-where (λ input. nested_is_condition (length input + 1) false input)
    (λ e is. behind ws (λ _. given _ is)))) (λ e is. given _ (inl (e, refl, is)))

path_step_is_path_step : Yields IsPathStep path_step
unfolding path_step
path_step_is_path_step input = step_is_path_step (nested_or (length input + 1)) (nested_is_condition (length input + 1)) input

-- a front that makes a path with any steps after it
record IsFront (ss : List Step) : Type 0 where
  joined : (others : List Step) → AreSteps others → IsPath (ss ++ others)

front_is_front : Yields IsFront front_steps
unfolding front_steps first_step
front_is_front = either (followed {P = λ (s : Step). IsFront (s ∷ [])}
    (either (behind (literal "$") (λ _. given _ (record { joined = λ others are. inr (inl (others, refl, are)) })))
    (followed (spaced-yields yields-name) (λ text is. given _ (record { joined = λ others are. inr (inr (is, are)) })))) (λ s is. given _ is))
    (given _ (record { joined = λ others are. inr (inr are) }))

plain_path_is_path : Yields IsPath plain_path
unfolding plain_path
plain_path_is_path = followed front_is_front (λ front is. followed (yields-repeat IsPathStep path_step path_step_is_path_step)
    (λ others are. given _ (is.joined others (are_steps others are))))

pub json_path_is_path : (text : List ℕ) (p : List Step) → json_path text ≡ Some p → IsPath p
unfolding json_path
json_path_is_path text p e =
    spaced-yields (either root_expression_is_path plain_path_is_path) text p [] (whole-some (spaced (root_expression </> plain_path) text) p e)

-- what holds of each path of this shape holds of what is read
pub if_read : (P : List Step → Type 0) → ((p : List Step) → IsPath p → P p) → (text : List ℕ) → IfSome (json_path text) P
if_read P h text = go (json_path text) refl where
  go : (o : Option (List Step)) → json_path text ≡ o → IfSome o P
  go None e = tt
  go (Some p) e = h p (json_path_is_path text p e)
