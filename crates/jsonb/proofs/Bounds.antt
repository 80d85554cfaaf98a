-- The bound on parentheses changes nothing, once it passes the length of the input.
use Rattle.jsonb.proofs.Common.{◌≡◌, ℕ, zero, suc, ◌+◌, ◌<◌, ◌≤◌, List, [], ◌∷◌, length, drop, Bool, true, Some, None, refl, ◌∙◌, arith, length-drop, add-one, codes, option_and_then, Decides-ltb, Parsed, Rule, ◌>>=◌, ◌>>◌, ◌</>◌, bytes, literal, up_to, repeat, list_of, NeverGrows, some-no_more, some-literal, grows-ws, Expression, spaced, path_root, path_with, group_with, exists_with, atom_with, and_with, or_with, nested_or, expression, path_step}
use Rattle.jsonb.proofs.ExpressionReadsSome.{some-path_root, some-and_separator, some-or_separator, some-atom, some-and, grows-nested_or}

-- the rules do the same on inputs that are shorter than this
abbrev Agree : {A : Type 0} → ℕ → Rule A → Rule A → Type 0
Agree k r s = (input : List ℕ) → length input < k → r input ≡ s input

agree-next : {A B : Type 0} {rule : Rule A} {next other : A → Rule B} (k : ℕ) → NeverGrows rule → ((a : A) → Agree k (next a) (other a)) →
    Agree k (rule >>= next) (rule >>= other)
agree-next {A} {rule = rule} {next = next} {other = other} k h same input short = go (rule input) refl where
  go : (o : Parsed A) → rule input ≡ o → option_and_then (λ (p : A × List ℕ). next p.0 p.1) o ≡ option_and_then (λ (p : A × List ℕ). other p.0 p.1) o
  go None at = refl
  go (Some p) at = same p.0 p.1 (omega (arith, h input p.0 p.1 at))

agree-first : {A B : Type 0} {rule rule' : Rule A} (k : ℕ) (next : A → Rule B) → Agree k rule rule' → Agree k (rule >>= next) (rule' >>= next)
agree-first k next same input short = rw (same input short) refl

-- what follows a byte is shorter
agree-behind : {B : Type 0} {next other : Rule B} (k c : ℕ) (cs : List ℕ) → Agree k next other →
    Agree (suc k) (bytes (c ∷ cs) >> next) (bytes (c ∷ cs) >> other)
agree-behind k c cs same [] short = refl
agree-behind k c cs same (b ∷ input) short =
    let shorter : length (drop (length cs) input) < k = omega (arith, length-drop (length cs) input) in grind (arith, same (drop (length cs) input) shorter)

agree-choice : {A : Type 0} {first first' second second' : Rule A} (k : ℕ) → Agree k first first' → Agree k second second' →
    Agree k (first </> second) (first' </> second')
agree-choice k h h' input short = rw (h input short, h' input short) refl

agree-up_to : {A : Type 0} (k : ℕ) (rule rule' : Rule A) → Agree k rule rule' → (n : ℕ) → Agree k (up_to n rule) (up_to n rule')
unfolding up_to
agree-up_to {A} k rule rule' h zero input short = refl
agree-up_to {A} k rule rule' h (suc n) input short = grind (arith, agree-up_to k rule rule' h n, Decides-ltb)

agree-repeat : {A : Type 0} {rule rule' : Rule A} (k : ℕ) → Agree k rule rule' → Agree k (repeat rule) (repeat rule')
unfolding repeat
agree-repeat {rule = rule} {rule' = rule'} k h input short = agree-up_to k rule rule' h (length input) input short

agree-list_of : {A S : Type 0} {rule rule' : Rule A} {separator : Rule S} (k : ℕ) → NeverGrows rule → NeverGrows separator →
    Agree k rule rule' → Agree k (list_of rule separator) (list_of rule' separator)
agree-list_of {rule = rule} {rule' = rule'} {separator = separator} k h s same input short =
    agree-next {rule = rule} k h (λ first. agree-first k _ (agree-repeat k (agree-next {rule = separator} k s (λ _. same)))) input short
    ∙ agree-first {rule = rule} {rule' = rule'} k _ same input short

agree-same : {A : Type 0} (k : ℕ) (rule : Rule A) → Agree k rule rule
agree-same k rule input short = refl

module _ (k : ℕ) (nested nested' : Bool → Rule Expression) (grows-nested : (f : Bool) → NeverGrows (nested f))
    (same : (f : Bool) → Agree k (nested f) (nested' f)) where
  agree-group : (f : Bool) → Agree (suc k) (group_with nested f) (group_with nested' f)
  unfolding group_with
  agree-group f = agree-behind k 40 [] (agree-next k grows-ws (λ _. agree-first k _ (same f)))

  agree-path : Agree (suc k) (path_with nested) (path_with nested')
  unfolding path_with
  agree-path = agree-choice (suc k) (agree-same (suc k) _) (agree-next (suc k) grows-ws (λ _. agree-first (suc k) _ (agree-first (suc k) _
      (agree-behind k 63 [] (agree-next k grows-ws (λ _ input short. agree-group true input (omega arith)))))))

  agree-exists : Agree (suc k) (exists_with nested) (exists_with nested')
  unfolding exists_with
  agree-exists = agree-behind k 101 (codes "xists") (agree-next k grows-ws (λ _. agree-next k (some-no_more (literal "(") (some-literal 40 []))
      (λ _. agree-next k grows-ws (λ _. agree-first k _ (agree-next k (some-no_more (path_root true) (some-path_root true))
      (λ first. agree-first k _ (agree-repeat k (λ input short. agree-path input (omega arith)))))))))

  agree-atom : (f : Bool) → Agree (suc k) (atom_with nested f) (atom_with nested' f)
  unfolding atom_with
  agree-atom f = agree-choice (suc k) (agree-same (suc k) _) (agree-choice (suc k) (agree-same (suc k) _) (agree-choice (suc k) (agree-group f) agree-exists))

  agree-or : (f : Bool) → Agree (suc k) (or_with nested f) (or_with nested' f)
  unfolding or_with and_with
  agree-or f = agree-first (suc k) _ (agree-list_of (suc k) (some-no_more (and_with nested f) (some-and nested grows-nested f))
      (some-no_more (spaced (literal "||")) some-or_separator)
      (agree-first (suc k) _ (agree-list_of (suc k) (some-no_more (atom_with nested f) (some-atom nested grows-nested f))
      (some-no_more (spaced (literal "&&")) some-and_separator) (agree-atom f))))

agree-nested_or : (k n m : ℕ) → k ≤ n → k ≤ m → (f : Bool) → Agree k (nested_or n f) (nested_or m f)
unfolding nested_or
agree-nested_or (suc k) (suc n) (suc m) p q f input short =
    agree-or k (nested_or n) (nested_or m) (grows-nested_or n) (λ g. agree-nested_or k n m (omega arith) (omega arith) g) f input short
agree-nested_or _ _ _ p q f input short = absurd (omega arith)

-- any bound past the length of the input does the same
nested_is_expression : (n : ℕ) (f : Bool) → Agree n (nested_or n f) (expression f)
unfolding expression
nested_is_expression n f input short = agree-nested_or (suc (length input)) n (length input + 1) (omega arith) (omega arith) f input (omega arith)

expression-once : (f : Bool) (input : List ℕ) → expression f input ≡ or_with (nested_or (length input)) f input
unfolding expression nested_or
expression-once f input = rw add-one refl

pub expression-rule : (f : Bool) (input : List ℕ) → expression f input ≡ or_with expression f input
expression-rule f input = expression-once f input ∙ agree-or (length input) (nested_or (length input)) expression (grows-nested_or (length input))
    (nested_is_expression (length input)) f input (omega arith)

pub path_step-rule : (input : List ℕ) → path_step input ≡ path_with expression input
unfolding path_step
path_step-rule input = agree-path (length input) (nested_or (length input + 1)) expression (grows-nested_or (length input + 1))
    (λ f i short. nested_is_expression (length input + 1) f i (omega arith)) input (omega arith)
