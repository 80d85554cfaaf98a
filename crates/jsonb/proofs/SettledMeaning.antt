-- Which variant holds a whole literal changes no truth, no step and no value.
use Rattle.jsonb.proofs.Common.{◌≡◌, ℕ, zero, List, [], ◌∷◌, Option, Some, None, refl, sym, ◌∙◌, ap, subst, map, flat_map, Ok, Err, inr, ℤ, pos, IfSome, IsSomeAnd, IsTrue, Equal, tied_itself, number_cmp_total, Error, Outcome, Refines, arith, and_then, try_flat_map, Operation, is_decimal, calculated, negated, Variant, int64, uint64, Number, number_cmp, is_equal, is_equal-true, IsEqual, AreEqual, PairsAreEqual, Tree, Trees, Pairs, Int64, Literal, BinaryOp, and_op, or_op, starts_with_op, add, subtract, multiply, divide, modulo, UnaryOp, plus, minus, Step, root, current, filter, whole_expression, Steps, no_steps, step, Expression, paths, value, binary, unary, exists, steps_of, settled_literal, SameButVariants, MeanTheSame, json_path, path_text, AllZip, Value, Truth, value_order, is_container, pair_truth, first_decisive, compare, operation, all_numbers, two_numbers, signed_number, each_signed, start, step_meaning, steps_meaning, operand_values, truth, expression_meaning, as_filter, meaning, list_truth, predicate, starts_with_truth, binary_meaning, truth_list, expression_predicate, calculation, Mode}
use Rattle.jsonb_doc.specs.Tree as tree
use Rattle.jsonb.specs.PathTree as path
use Rattle.jsonb.proofs.JumpLemmas.{same_after}
use Rattle.jsonb.proofs.SettledPaths.{settled_step, settled_steps, settled, one_path}
use Rattle.jsonb.specs.Values.{number, literal_value}

-- ---- numbers whose whole values are unsigned if they are not negative

abbrev settled_variant : Variant → ℤ → Variant
settled_variant int64 (pos n) = uint64
settled_variant v z = v

abbrev settled_number : Number → Number
settled_number n = record { variant = settled_variant n.variant n.whole; whole = n.whole; scale = n.scale }

abbrev settled_value : Value → Value
settled_value (number n) = number (settled_number n)
settled_value v = v

abbrev mutual
  settled_tree : Tree → Tree
  settled_tree (tree.number n) = tree.number (settled_number n)
  settled_tree (tree.array ts) = tree.array (settled_trees ts)
  settled_tree (tree.object ps) = tree.object (settled_pairs ps)
  settled_tree t = t

  settled_trees : Trees → Trees
  settled_trees tree.no_trees = tree.no_trees
  settled_trees (tree.tree t ts) = tree.tree (settled_tree t) (settled_trees ts)

  settled_pairs : Pairs → Pairs
  settled_pairs tree.no_pairs = tree.no_pairs
  settled_pairs (tree.pair key t ps) = tree.pair key (settled_tree t) (settled_pairs ps)

-- the list with each tree settled, or the same error
abbrev settled_outcome : Outcome (List Tree) → Outcome (List Tree)
settled_outcome o = and_then o (λ ts. Ok (map settled_tree ts))

-- ---- comparisons see no variant

order-settled : (v w : Value) → value_order (settled_value v) (settled_value w) ≡ value_order v w
order-settled v w = grind arith

starts_with_truth-settled : (v w : Value) → starts_with_truth (settled_value v) (settled_value w) ≡ starts_with_truth v w
starts_with_truth-settled v w = grind arith

container-settled : (v : Value) → is_container (settled_value v) ≡ is_container v
container-settled v = grind arith

pair-settled : (op : BinaryOp) (v w : Value) → pair_truth op (settled_value v) (settled_value w) ≡ pair_truth op v w
pair-settled starts_with_op v w = starts_with_truth-settled v w
pair-settled _ v w = rw (container-settled v, container-settled w, order-settled v w) refl

row-settled : (op : BinaryOp) (v : Value) (ws : List Value)
    → map (λ w. pair_truth op (settled_value v) w) (map settled_value ws) ≡ map (λ w. pair_truth op v w) ws
row-settled op v [] = refl
row-settled op v (w ∷ ws) = rw (pair-settled op v w, row-settled op v ws) refl

pairs-settled : (op : BinaryOp) (vs ws : List Value)
    → flat_map (λ v. map (λ w. pair_truth op v w) (map settled_value ws)) (map settled_value vs) ≡ flat_map (λ v. map (λ w. pair_truth op v w) ws) vs
pairs-settled op [] ws = refl
pairs-settled op (v ∷ vs) ws = rw (row-settled op v ws, pairs-settled op vs ws) refl

compare-settled : (op : BinaryOp) (vs ws : List Value) → compare op (map settled_value vs) (map settled_value ws) ≡ compare op vs ws
compare-settled op vs ws = ap first_decisive (pairs-settled op vs ws)

-- the values with each settled
abbrev settled_values : Outcome (List Value) → Outcome (List Value)
settled_values o = and_then o (λ vs. Ok (map settled_value vs))

-- a comparison of the values of both sides
abbrev compared : BinaryOp → Outcome (List Value) → Outcome (List Value) → Outcome Truth
compared op left right = and_then left (λ ls. and_then right (λ rs. Ok (compare op ls rs)))

compared-settled : (op : BinaryOp) (l r : Outcome (List Value)) → compared op (settled_values l) (settled_values r) ≡ compared op l r
compared-settled op l r = grind (arith, compare-settled)

same_compared : (op : BinaryOp) (l l' r r' : Outcome (List Value)) → settled_values l' ≡ settled_values l → settled_values r' ≡ settled_values r
    → compared op l' r' ≡ compared op l r
same_compared op l l' r r' e f = cc (compared-settled op l r, compared-settled op l' r', e, f)

literal-settled : (l : Literal) → settled_value (literal_value (settled_literal l)) ≡ settled_value (literal_value l)
literal-settled (path.number (Int64 (pos zero))) = refl
literal-settled _ = refl

-- ---- steps, operands and results

joined-same : {A B : Type 0} (f g : A → Outcome (List B)) → ((a : A) → f a ≡ g a) → (xs : List A) → try_flat_map f xs ≡ try_flat_map g xs
joined-same f g h [] = refl
joined-same f g h (x ∷ xs) = rw (h x, joined-same f g h xs) refl

start-settled : (ss : Steps) (top item : Tree) → start (settled_steps ss) top item ≡ start ss top item
start-settled no_steps top item = refl
start-settled (step current rest) top item = refl
start-settled (step _ rest) top item = refl

abbrev Values : Expression → Type 0
Values e = (mode : Mode) (top item : Tree) → settled_values (operand_values mode (settled e) top item) ≡ settled_values (operand_values mode e top item)

abbrev Truths : Expression → Type 0
Truths e = (mode : Mode) (top item : Tree) → truth mode (settled e) top item ≡ truth mode e top item

abbrev StepSame : Step → Type 0
StepSame s = (mode : Mode) (top item : Tree) → step_meaning mode (settled_step s) top item ≡ step_meaning mode s top item

abbrev StepsSame : Steps → Type 0
StepsSame ss = (mode : Mode) (top : Tree) (items : List Tree) → steps_meaning mode (settled_steps ss) top items ≡ steps_meaning mode ss top items

path-values : (ss : Steps) → StepsSame ss → Values (paths ss)
path-values ss h mode top item = rw (start-settled ss top item, h mode top (start ss top item ∷ [])) refl

exists-truth : (ss : Steps) → StepsSame ss → Truths (exists ss)
exists-truth ss h mode top item = rw (start-settled ss top item, h mode top (start ss top item ∷ [])) refl

binary-truth : (op : BinaryOp) (l r : Expression) → Values l → Values r → Truths l → Truths r → Truths (binary op l r)
binary-truth and_op l r vl vr tl tr mode top item = rw (tl mode top item, tr mode top item) refl
binary-truth or_op l r vl vr tl tr mode top item = rw (tl mode top item, tr mode top item) refl
binary-truth add l r vl vr tl tr mode top item = refl
binary-truth subtract l r vl vr tl tr mode top item = refl
binary-truth multiply l r vl vr tl tr mode top item = refl
binary-truth divide l r vl vr tl tr mode top item = refl
binary-truth modulo l r vl vr tl tr mode top item = refl
binary-truth op l r vl vr tl tr mode top item = same_compared op _ _ _ _ (vl mode top item) (vr mode top item)

steps-same : (s : Step) (ss : Steps) → StepSame s → StepsSame ss → StepsSame (step s ss)
steps-same s ss one more mode top items = rw (joined-same (step_meaning mode (settled_step s) top) (step_meaning mode s top) (one mode top) items)
    (same_after (try_flat_map (step_meaning mode s top) items) (steps_meaning mode (settled_steps ss) top) (steps_meaning mode ss top) (more mode top))

mutual
  step_same : (s : Step) → StepSame s
  step_same (filter e) = λ mode top item. rw ((expression_same e).1 mode top item) refl
  step_same _ = λ mode top item. refl

  expression_same : (e : Expression) → Values e × Truths e
  expression_same (paths ss) = (path-values ss (steps_same ss), λ mode top item. refl)
  expression_same (value l) = (λ mode top item. ap (λ (v : Value). Ok (v ∷ [])) (literal-settled l), λ mode top item. refl)
  expression_same (binary op l r) =
      (λ mode top item. refl, binary-truth op l r (expression_same l).0 (expression_same r).0 (expression_same l).1 (expression_same r).1)
  expression_same (unary op e) = (λ mode top item. refl, λ mode top item. refl)
  expression_same (exists ss) = (λ mode top item. refl, exists-truth ss (steps_same ss))

  steps_same : (ss : Steps) → StepsSame ss
  steps_same no_steps = λ mode top items. refl
  steps_same (step s ss) = steps-same s ss (step_same s) (steps_same ss)

-- ---- whole paths, by value

settled_variant-twice : (v : Variant) (z : ℤ) → settled_variant (settled_variant v z) z ≡ settled_variant v z
settled_variant-twice int64 (pos n) = refl
settled_variant-twice _ _ = refl

settled_number-twice : (n : Number) → settled_number (settled_number n) ≡ settled_number n
settled_number-twice n = ap (λ (v : Variant). record { variant = v; whole = n.whole; scale = n.scale }) (settled_variant-twice n.variant n.whole)

decimal-settled : (v : Variant) (z : ℤ) → is_decimal (settled_variant v z) ≡ is_decimal v
decimal-settled int64 (pos n) = refl
decimal-settled _ _ = refl

calculated-settled : (op : Operation) (m n : Number) → calculated op (settled_number m) (settled_number n) ≡ calculated op m n
calculated-settled op m n = rw (decimal-settled m.variant m.whole, decimal-settled n.variant n.whole) refl

negated-settled : (n : Number) → negated (settled_number n) ≡ negated n
negated-settled n = rw (decimal-settled n.variant n.whole) refl

-- a function of the values that sees no variant, except for those in its result
same_answer : (f : List Value → Outcome (List Tree)) → ((vs : List Value) → settled_outcome (f (map settled_value vs)) ≡ settled_outcome (f vs)) →
    (o o' : Outcome (List Value)) → settled_values o' ≡ settled_values o → settled_outcome (and_then o' f) ≡ settled_outcome (and_then o f)
same_answer f h o o' e = sym (through o') ∙ ap (λ (x : Outcome (List Value)). settled_outcome (and_then x f)) e ∙ through o where
  through : (x : Outcome (List Value)) → settled_outcome (and_then (settled_values x) f) ≡ settled_outcome (and_then x f)
  through (Ok vs) = h vs
  through (Err er) = refl

numbers-settled : (vs : List Value) → all_numbers (map settled_value vs) ≡ and_then (all_numbers vs) (λ ns. Ok (map settled_number ns))
numbers-settled [] = refl
numbers-settled (number n ∷ vs) = rw (numbers-settled vs) (grind arith)
numbers-settled (_ ∷ vs) = refl

joined-minus : (ns : List Number) → try_flat_map (signed_number minus) (map settled_number ns) ≡ try_flat_map (signed_number minus) ns
joined-minus [] = refl
joined-minus (n ∷ ns) = rw (negated-settled n, joined-minus ns) refl

plus_is : (ns : List Number) → try_flat_map (signed_number plus) ns ≡ Ok (map tree.number ns)
plus_is [] = refl
plus_is (n ∷ ns) = rw (plus_is ns) refl

trees-settled : (ns : List Number) → map settled_tree (map tree.number (map settled_number ns)) ≡ map settled_tree (map tree.number ns)
trees-settled [] = refl
trees-settled (n ∷ ns) = rw (settled_number-twice n, trees-settled ns) refl

joined-plus : (ns : List Number)
    → settled_outcome (try_flat_map (signed_number plus) (map settled_number ns)) ≡ settled_outcome (try_flat_map (signed_number plus) ns)
joined-plus ns = rw (plus_is (map settled_number ns), plus_is ns, trees-settled ns) refl

signed-settled : (op : UnaryOp) (vs : List Value) → settled_outcome (each_signed op (map settled_value vs)) ≡ settled_outcome (each_signed op vs)
signed-settled op vs = rw (numbers-settled vs) (go op (all_numbers vs)) where
  go : (op : UnaryOp) (o : Outcome (List Number))
      → settled_outcome (and_then (and_then o (λ ns. Ok (map settled_number ns))) (try_flat_map (signed_number op)))
      ≡ settled_outcome (and_then o (try_flat_map (signed_number op)))
  go op (Err e) = refl
  go plus (Ok ns) = joined-plus ns
  go minus (Ok ns) = ap settled_outcome (joined-minus ns)

two-settled : (op : Operation) (ls rs : List Value) → two_numbers op (map settled_value ls) (map settled_value rs) ≡ two_numbers op ls rs
two-settled op (number m ∷ []) (number n ∷ []) = rw (calculated-settled op m n) refl
two-settled op _ _ = refl

same_calculation : (op : Operation) (l l' r r' : Outcome (List Value)) → settled_values l' ≡ settled_values l → settled_values r' ≡ settled_values r
    → calculation op l' r' ≡ calculation op l r
same_calculation op l l' r r' e f = cc (through l r, through l' r', e, f) where
  through : (x y : Outcome (List Value)) → calculation op (settled_values x) (settled_values y) ≡ calculation op x y
  through x y = grind (arith, two-settled)

scalar-settled : (l : Literal) (mode : Mode) (top : Tree)
    → settled_outcome (expression_meaning mode (value (settled_literal l)) top) ≡ settled_outcome (expression_meaning mode (value l) top)
scalar-settled (path.number (Int64 (pos zero))) mode top = refl
scalar-settled _ mode top = refl

binary-meaning : (op : BinaryOp) (l r : Expression) (mode : Mode) (top : Tree)
    → expression_meaning mode (settled (binary op l r)) top ≡ expression_meaning mode (binary op l r) top
binary-meaning op l r mode top = go (operation op) where
  go : (o : Option Operation) → binary_meaning mode o op (settled l) (settled r) top ≡ binary_meaning mode o op l r top
  go (Some o) = same_calculation o _ _ _ _ ((expression_same l).0 mode top top) ((expression_same r).0 mode top top)
  go None = ap truth_list ((expression_same (binary op l r)).1 mode top top)

expression-meaning : (e : Expression) (mode : Mode) (top : Tree)
    → settled_outcome (expression_meaning mode (settled e) top) ≡ settled_outcome (expression_meaning mode e top)
expression-meaning (paths ss) mode top = refl
expression-meaning (value l) mode top = scalar-settled l mode top
expression-meaning (unary op e) mode top = same_answer (each_signed op) (signed-settled op) _ _ ((expression_same e).0 mode top top)
expression-meaning (binary op l r) mode top = ap settled_outcome (binary-meaning op l r mode top)
expression-meaning (exists ss) mode top = rw ((expression_same (exists ss)).1 mode top top) refl

filter-settled : (s : Step) → as_filter (settled_step s) ≡ settled_step (as_filter s)
filter-settled root = refl
filter-settled _ = refl

filters-settled : (p : List Step) → steps_of (map as_filter (map settled_step p)) ≡ settled_steps (steps_of (map as_filter p))
filters-settled [] = refl
filters-settled (s ∷ p) = rw (filter-settled s, filters-settled p) refl

plain-meaning : (p : List Step) (mode : Mode) (top : Tree)
    → steps_meaning mode (steps_of (map as_filter (map settled_step p))) top (top ∷ []) ≡ steps_meaning mode (steps_of (map as_filter p)) top (top ∷ [])
plain-meaning p mode top = rw (filters-settled p) (steps_same (steps_of (map as_filter p)) mode top (top ∷ []))

meaning-settled : (p : List Step) (mode : Mode) (top : Tree) → settled_outcome (meaning mode (map settled_step p) top) ≡ settled_outcome (meaning mode p top)
meaning-settled [] mode top = refl
meaning-settled (whole_expression e ∷ []) mode top = expression-meaning e mode top
meaning-settled (current ∷ p) mode top = refl
meaning-settled (s ∷ p) mode top = ap settled_outcome (plain-meaning (s ∷ p) mode top)

-- ---- what differs at most in variants is equal by value

number_itself : (n : Number) → number_cmp n n ≡ Equal
number_itself n = tied_itself number_cmp_total n

mutual
  same_tree : (t u : Tree) → settled_tree t ≡ settled_tree u → IsEqual t u
  same_tree tree.null tree.null e = tt
  same_tree (tree.boolean a) (tree.boolean b) e = cc
  same_tree (tree.number m) (tree.number n) e =
      let k : settled_number m ≡ settled_number n = cc in subst (λ x. number_cmp (settled_number m) x ≡ Equal) k (number_itself (settled_number m))
  same_tree (tree.text a) (tree.text b) e = cc
  same_tree (tree.extension a) (tree.extension b) e = cc
  same_tree (tree.array ts) (tree.array us) e = same_trees ts us (cc)
  same_tree (tree.object ps) (tree.object qs) e = same_pairs ps qs (cc)
  same_tree _ _ e = cc

  same_trees : (ts us : Trees) → settled_trees ts ≡ settled_trees us → AreEqual ts us
  same_trees tree.no_trees tree.no_trees e = tt
  same_trees (tree.tree t ts) (tree.tree u us) e =
      (same_tree t u (cc), same_trees ts us (cc))
  same_trees _ _ e = cc

  same_pairs : (ps qs : Pairs) → settled_pairs ps ≡ settled_pairs qs → PairsAreEqual ps qs
  same_pairs tree.no_pairs tree.no_pairs e = tt
  same_pairs (tree.pair a t ps) (tree.pair b u qs) e = (cc, same_tree t u (cc), same_pairs ps qs (cc))
  same_pairs _ _ e = cc

same_lists : (ts us : List Tree) → map settled_tree ts ≡ map settled_tree us → AllZip (λ t u. IsTrue (is_equal t u)) ts us
same_lists [] [] e = tt
same_lists (t ∷ ts) (u ∷ us) e =
    (is_equal-true t u (same_tree t u (cc)), same_lists ts us (cc))
same_lists _ _ e = cc

same_by_value : (o o' : Outcome (List Tree)) → settled_outcome o ≡ settled_outcome o' → Refines (AllZip (λ t u. IsTrue (is_equal t u))) (λ (_ : Error). ⊥) o o'
same_by_value (Ok ts) (Ok us) e = record { ok = same_lists ts us (cc); err = tt }
same_by_value (Err a) (Err b) e = record { ok = tt; err = inr (sym e) }
same_by_value _ _ e = cc

-- ---- predicates

list_truth-settled : (ts : List Tree) → list_truth (map settled_tree ts) ≡ list_truth ts
list_truth-settled [] = refl
list_truth-settled (tree.null ∷ []) = refl
list_truth-settled (tree.null ∷ u ∷ ts) = refl
list_truth-settled (t ∷ []) = refl
list_truth-settled (t ∷ u ∷ ts) = refl

same_truth : (o o' : Outcome (List Tree)) → settled_outcome o ≡ settled_outcome o'
    → and_then o (λ ts. Ok (list_truth ts)) ≡ and_then o' (λ ts. Ok (list_truth ts))
same_truth (Ok ts) (Ok us) e =
    let k : map settled_tree ts ≡ map settled_tree us = cc in ap (λ (b : Truth). Ok b) (sym (list_truth-settled ts) ∙ ap list_truth k ∙ list_truth-settled us)
same_truth (Err a) (Err b) e = ap Err (cc)
same_truth _ _ e = cc

-- what an expression that is not a literal says
told : (e : Expression) (mode : Mode) (top : Tree) →
    and_then (expression_meaning mode (settled e) top) (λ ts. Ok (list_truth ts)) ≡ and_then (expression_meaning mode e top) (λ ts. Ok (list_truth ts))
told e mode top = same_truth (expression_meaning mode (settled e) top) (expression_meaning mode e top) (expression-meaning e mode top)

expression-predicate : (e : Expression) (mode : Mode) (top : Tree) → expression_predicate mode (settled e) top ≡ expression_predicate mode e top
expression-predicate (value l) mode top = refl
expression-predicate e mode top = told e mode top

-- several steps say nothing
several-predicate : (e : Expression) (s : Step) (p : List Step) (mode : Mode) (top : Tree) → predicate mode (whole_expression e ∷ s ∷ p) top ≡ Ok None
several-predicate (value l) s p mode top = refl
several-predicate _ s p mode top = refl

predicate-settled : (p : List Step) (mode : Mode) (top : Tree) → predicate mode (map settled_step p) top ≡ predicate mode p top
predicate-settled [] mode top = refl
predicate-settled (whole_expression e ∷ []) mode top = expression-predicate e mode top
predicate-settled (whole_expression e ∷ t ∷ p) mode top =
    several-predicate (settled e) (settled_step t) (map settled_step p) mode top ∙ sym (several-predicate e t p mode top)
predicate-settled (_ ∷ p) mode top = refl

pub variants_change_no_meaning : (p q : List Step) → SameButVariants p q → MeanTheSame p q
variants_change_no_meaning p q alike mode top = let same = one_path p q alike in (
  same_by_value (meaning mode p top) (meaning mode q top)
      (sym (meaning-settled p mode top) ∙ ap (λ (path : List Step). settled_outcome (meaning mode path top)) same ∙ meaning-settled q mode top),
  sym (predicate-settled p mode top) ∙ ap (λ (path : List Step). predicate mode path top) same ∙ predicate-settled q mode top,
)

-- ---- printed paths

-- what is read back is the same path except for variants
meant_back : (p : List Step) (o : Option (List Step)) → IsSomeAnd o (SameButVariants p) → IsSomeAnd o (MeanTheSame p)
meant_back p (Some q) h = variants_change_no_meaning p q h
meant_back p None h = absurd h

-- the printed text reads, as a path of which this holds
abbrev pub PrintsAs : (List Step → List Step → Type 0) → List Step → Type 0
PrintsAs Same p = IsSomeAnd (json_path (path_text p)) (Same p)

pub prints_with_meaning : (text : List ℕ) → IfSome (json_path text) (PrintsAs SameButVariants) → IfSome (json_path text) (PrintsAs MeanTheSame)
prints_with_meaning input h = go (json_path input) h where
  go : (o : Option (List Step)) → IfSome o (PrintsAs SameButVariants) → IfSome o (PrintsAs MeanTheSame)
  go (Some p) h = meant_back p (json_path (path_text p)) h
  go None h = tt
